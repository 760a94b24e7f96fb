use Rattle.bidi_base.proofs.Common.{◌≡◌, ◌∙◌, ◌+◌, ◌^◌, true, false, [], None, sym, ap, nil_from_length, ◌||◌, ◌&&◌, Bool, nat_lt}
use Rattle.bidi_base.proofs.Common.{arith, class_number, is_strong, is_isolate_initiator, is_pdi, is_fsi, is_paragraph_separator}
use Rattle.bidi_base.specs.declared.char_data.BidiClass.{BidiClass}
use Rattle.bidi_base.specs.declared.char_data.BidiClass.TheVariants.{L, R, AL, B, LRI, RLI, FSI, PDI}
use Rattle.bidi_paragraphs.specs.declared.first_pass.paragraph_state.ParagraphState.{ParagraphState}
use Rattle.bidi_paragraphs.specs.ClassSet.{has}
use Rattle.bidi_paragraphs.specs.FirstPass.{waiting, is_decided, wants_strong}
use Rattle.bidi_paragraphs.proofs.first_pass.paragraph_state.ParagraphState.stop_classes.Goals as goal

-- what is in each set
bounds : (k : BidiClass) → has (record { bits = 2 ^ class_number FSI + 2 ^ class_number B }) k ≡ (is_paragraph_separator k || is_fsi k)
bounds k = grind arith

initiators : (k : BidiClass) → has (record { bits = 2 ^ class_number LRI + 2 ^ class_number RLI + 2 ^ class_number FSI }) k ≡ is_isolate_initiator k
initiators k = grind arith

strong : (k : BidiClass) → has (record { bits = 2 ^ class_number L + 2 ^ class_number R + 2 ^ class_number AL }) k ≡ is_strong k
strong k = grind arith

closing : (k : BidiClass) → has (record { bits = 2 ^ class_number PDI }) k ≡ is_pdi k
closing k = grind arith

-- where the state is decided, no strong character decides anything
inert : (r : ParagraphState) → is_decided r ≡ true → wants_strong r ≡ false
inert r decided =
    let none : r.undecided.items ≡ [] = nil_from_length r.undecided.items (grind arith) in
    let waits : waiting r.depth r.undecided.items ≡ None = ap (waiting r.depth) none in
    grind (arith, waits)

-- the sets, joined in the order of the code and in that of the definition
joined : (sep fsi opens wants turns deep closes : Bool) → (((sep || fsi) || opens) || (wants && turns)) || (deep && closes)
    ≡ (sep || (fsi || (opens && true))) || ((turns && wants) || (closes && deep))
joined sep fsi opens wants turns deep closes = grind arith

joined_decided : (sep fsi opens turns deep closes : Bool) → (sep || fsi) || (deep && closes) ≡ (sep || (fsi || (opens && false))) || ((turns && false) || (closes && deep))
joined_decided sep fsi opens turns deep closes = grind arith

pub returns-then-is_decided : goal.returns-then-is_decided
returns-then-is_decided c = λ k.
    let decided = sym c.is_decided.ensures ∙ c.if-is_decided.true in
    simp (c.union.ensures.has k, c.when-closing.ensures k, decided, inert c.args.self.now decided, bounds k, closing k)
    (joined_decided (is_paragraph_separator k) (is_fsi k) (is_isolate_initiator k) (is_strong k) (nat_lt 0 c.args.self.now.depth) (is_pdi k))

pub returns : goal.returns
returns c = λ k.
    let decided = sym c.is_decided.ensures ∙ c.if-is_decided.false in
    simp (
      c.union-4.ensures.has k,
      c.union-3.ensures.has k,
      c.union-2.ensures.has k,
      c.when.ensures k,
      c.when-closing.ensures k,
      decided,
      c.wants_strong.ensures,
      bounds k,
      initiators k,
      strong k,
      closing k,
    ) (joined (is_paragraph_separator k) (is_fsi k) (is_isolate_initiator k) (wants_strong c.args.self.now) (is_strong k) (nat_lt 0 c.args.self.now.depth) (is_pdi k))
