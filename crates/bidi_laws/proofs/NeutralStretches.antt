-- N1 and N2 stretch by stretch: neutrals, and the class with a direction, or the end, after them.
use Rattle.bidi_base.proofs.Common.{◌≡◌, true, List, [], ◌∷◌, ◌++◌, length, replicate, Some, refl, append-nil, arith, list_all}
use Rattle.bidi_base.proofs.Common.{and_parts, as_direction, is_ni, nearest_direction, n1_rule, n1_n2, in_context}
use Rattle.bidi_base.specs.declared.char_data.BidiClass.{BidiClass}
use Rattle.bidi_laws.proofs.NeutralBlocks.{common, past_neutral}
use Rattle.bidi_laws.proofs.NeutralLemmas.{nearest_direction-more}

-- neutrals are looked past
past_neutrals : (d : BidiClass) (cs after : List BidiClass) → list_all is_ni cs ≡ true → nearest_direction d (cs ++ after) ≡ nearest_direction d after
past_neutrals d [] after h = refl
past_neutrals d (c ∷ cs) after h = grind (arith, past_neutral d c (cs ++ after), past_neutrals d cs after)

-- what is before counts by its nearest direction alone
behind_alike : (e sos left eos : BidiClass) (before near classes : List BidiClass) → nearest_direction sos before ≡ nearest_direction left near
    → in_context (n1_rule e sos eos) before classes ≡ in_context (n1_rule e left eos) near classes
behind_alike e sos left eos before near [] h = refl
behind_alike e sos left eos before near (c ∷ cs) h =
    grind (arith, behind_alike e sos left eos (c ∷ before) (c ∷ near) cs, nearest_direction-more)

-- neutrals take what their two sides give, and what is after them sees what they saw
pub n1_n2-neutrals : (e left eos : BidiClass) (classes after : List BidiClass) → list_all is_ni classes ≡ true
    → n1_n2 e left eos (classes ++ after) ≡ replicate (length classes) (common e left (nearest_direction eos after)) ++ n1_n2 e left eos after
n1_n2-neutrals e left eos [] after h = refl
n1_n2-neutrals e left eos (c ∷ cs) after h =
    grind (arith, n1_n2-neutrals e left eos cs after, and_parts, behind_alike, past_neutral, past_neutrals)

-- a class with a direction stays, and what is after it sees that direction
pub n1_n2-directed : (e left right eos c : BidiClass) (after : List BidiClass) → as_direction c ≡ Some right → n1_n2 e left eos (c ∷ after) ≡ c ∷ n1_n2 e right eos after
n1_n2-directed e left right eos c after is = grind (arith, behind_alike)

-- neutrals before the end
pub n1_n2-last : (e left eos : BidiClass) (classes : List BidiClass) → list_all is_ni classes ≡ true → n1_n2 e left eos classes ≡ replicate (length classes) (common e left eos)
n1_n2-last e left eos classes h = simp append-nil at (n1_n2-neutrals e left eos classes [] h)
