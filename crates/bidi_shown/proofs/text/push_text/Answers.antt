use Rattle.bidi_base.proofs.Common.{◌≡◌, ◌∙◌, ◌++◌, List, [], ◌∷◌, ℕ, length, refl, sym, ap, arith, append-nil, string_bytes, chars, chars-nil}
use Rattle.bidi_unicode.specs.Unicode.{unicode_source}
use Rattle.bidi_shown.specs.Displayed.{shown_text}
use Rattle.bidi_shown.specs.declared.view.View.{View}
use Rattle.bidi_shown.proofs.text.push_text.Goals as goal

-- nothing is shown of an empty text
nothing-shown : (view : View) → shown_text unicode_source view (chars []) ≡ []
unfolding shown_text
nothing-shown view = simp chars-nil

empty : (bs : List ℕ) → length bs ≡ 0 → bs ≡ []
empty [] none = refl
empty (b ∷ bs) none = absurd (omega (arith, none))

pub returns : goal.returns
returns c =
    let none : c.loop-rest.rest.now ≡ [] = empty c.loop-rest.rest.now (grind arith) in
    let nothing : shown_text unicode_source c.args.view (chars c.loop-rest.rest.now) ≡ [] = ap (λ bs. shown_text unicode_source c.args.view (chars bs)) none ∙ nothing-shown c.args.view in
    sym (append-nil (string_bytes c.loop-rest.out)) ∙ ap (λ l. string_bytes c.loop-rest.out ++ l) (sym nothing) ∙ c.loop-rest.invariant.shown
