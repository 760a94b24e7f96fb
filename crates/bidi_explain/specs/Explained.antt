-- What is reported of the paragraphs of a text.
use Rattle.std.specs.Prelude.{◌≡◌, ℕ, List, [], ◌∷◌, ◌++◌, Option, None}
use Rattle.bidi_base.specs.Source.{Source}
use Rattle.bidi_terminal.specs.Bases.{level_of_base}
use Rattle.bidi_terminal.specs.declared.base.Base.TheVariants.{Auto}
use Rattle.bidi_base.specs.Paragraphs.{paragraphs_in, own_chars}
use Rattle.bidi_explain.specs.Pages.{section_text}
use Rattle.bidi_explain.specs.Stages.{AreStages}
use Rattle.bidi_explain.specs.Tables.{table_text}
use Rattle.bidi_explain.specs.declared.stages.Stages.{Stages}
use Rattle.bidi_explain.specs.declared.view.Form.{Form}
use Rattle.bidi_explain.specs.declared.view.Form.TheVariants.{Table, Page}
use Rattle.bidi_explain.specs.declared.view.StageView.{StageView}

-- the stages of a paragraph in a form; a table fits a terminal of this width
abbrev pub stages_text : Form → Option ℕ → List ℕ → Stages → List ℕ
stages_text Table width chars s = table_text width chars s
stages_text Page width chars s = section_text chars s

-- the new text is the old one, and after it what is reported of a line without its separator
pub record IsReported (source : Source) (view : StageView) (line old new : List ℕ) : Type 0 where
  pub stages : Stages
  pub are : AreStages source (level_of_base view.base) (own_chars source line) stages
  pub appended : new ≡ old ++ stages_text view.form view.width (own_chars source line) stages

-- the same for several lines
abbrev pub AreAppended : Source → StageView → List (List ℕ) → List ℕ → List ℕ → Type 0
AreAppended source view [] old new = new ≡ old
AreAppended source view (line ∷ lines) old new =
    (next : List ℕ) × IsReported source view line old next × AreAppended source view lines next new

-- the text is what is reported of a text's lines
abbrev pub AreReported : Source → StageView → List ℕ → List ℕ → Type 0
AreReported source view chars text = AreAppended source view (paragraphs_in source chars) [] text

-- what `explain` does without options
abbrev pub first_stage_view : StageView
first_stage_view = record { base = Auto; form = Table; width = None }
