use Rattle.bidi_base.proofs.Common.{◌≡◌, ◌<◌, ◌-◌, ℕ, List, length, get_or, arith, sym, refl, last_or}
use Rattle.std.proofs.lemmas.Option.{slice_get_read}
use Rattle.bidi_base.proofs.PlacesLemmas.{last_or-slice_get}
use Rattle.bidi_plain.proofs.plain.run_sequences.with_ends.Goals as goal

last_is : (places : List ℕ) (n x : ℕ) → 0 < length places → n ≡ length places → x ≡ get_or places (n - 1) x → x ≡ last_or 0 places
last_is places n x some long e = sym (last_or-slice_get 0 places x (slice_get_read places (length places) (length places - 1) x refl (omega arith) (rw long at e)))

pub end_class-eos-requires-clause-last : goal.end_class-eos-requires-clause-last
end_class-eos-requires-clause-last c = grind (arith, last_is)

pub returns : goal.returns
returns c = grind (arith, last_is)
