-- A character that the walk does not mind changes nothing but the flags.
use Rattle.bidi_base.proofs.Common.{◌≡◌, ℕ, false, List, [], arith, Range, is_some, is_strong, is_isolate_initiator, is_pdi, true, is_paragraph_separator}
use Rattle.bidi_base.specs.declared.char_data.BidiClass.{BidiClass}
use Rattle.bidi_paragraphs.specs.FirstPass.{waiting, classes_after, is_decided, stops_at}
use Rattle.bidi_paragraphs.specs.declared.first_pass.paragraph_state.ParagraphState.{ParagraphState}

module _ (r : ParagraphState) (c : BidiClass) (range : Range ℕ) (idle : stops_at r c ≡ false) (empty : r.depth ≡ 0 → r.undecided.items ≡ []) where
  pub idle-separator : is_paragraph_separator c ≡ false
  idle-separator = grind arith

  pub idle-classes : (classes : List BidiClass) → classes ≡ classes_after c (waiting r.depth r.undecided.items) classes
  idle-classes classes = grind arith

-- an initiator that is no stop class comes where the state is decided
pub idle-initiator : (r : ParagraphState) (c : BidiClass) → stops_at r c ≡ false → is_isolate_initiator c ≡ true → is_decided r ≡ true
idle-initiator r c idle opens = grind arith

-- a PDI that is no stop class comes where no isolate is counted
pub idle-pdi : (r : ParagraphState) (c : BidiClass) → stops_at r c ≡ false → is_pdi c ≡ true → r.depth ≡ 0
idle-pdi r c idle closes = grind arith

-- a strong character that is no stop class decides nothing
pub idle-strong : (r : ParagraphState) (c : BidiClass) → stops_at r c ≡ false → is_strong c ≡ true → is_some (waiting r.depth r.undecided.items) ≡ false
idle-strong r c idle strong = grind arith
