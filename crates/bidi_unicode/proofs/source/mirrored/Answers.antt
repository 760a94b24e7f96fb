use Rattle.bidi_base.proofs.Common.{◌≡◌, Some, get_or, is_some, sym, ap, ◌∙◌}
use Rattle.bidi_unicode.specs.Unicode.{mirrored_of}
use Rattle.bidi_unicode.specs.declared.tables.TheConstants.{MIRRORED}
use Rattle.bidi_unicode.proofs.TableLaws.{mirrored_of-is_mirrored, mirrored_of-mirrored_of}
use Rattle.bidi_unicode.proofs.source.mirrored.Goals.{then-c-lt3898+in_ok-index, else-c-lt3898+in_ok-index-2}
use Rattle.bidi_unicode.proofs.source.mirrored.Goals as goal

pub returns : goal.returns
returns c =
    let found : mirrored_of c.args.c ≡ Some (get_or MIRRORED c.if-c-lt3898.index (0, 0)).1 = elim c.if-c-lt3898.branch [
      | then-c-lt3898+in_ok-index w ↦ w.in_ok-index.ensures.found.1 (0, 0) ∙ ap (λ i. Some (get_or MIRRORED i (0, 0)).1) (sym w.index-is)
      | else-c-lt3898+in_ok-index-2 w ↦ w.in_ok-index-2.ensures.found.1 (0, 0) ∙ ap (λ i. Some (get_or MIRRORED i (0, 0)).1) (sym w.index-is)
    ] in
    record {
      partner = sym found;
      mirrored = λ _. mirrored_of-is_mirrored c.args.c (ap is_some found);
      back = mirrored_of-mirrored_of c.args.c _ found;
    }
