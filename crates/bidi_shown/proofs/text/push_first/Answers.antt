use Rattle.bidi_base.proofs.Common.{◌≡◌, ◌∙◌, ◌++◌, List, ℕ, sym, ap, append_assoc, string_bytes, chars}
use Rattle.bidi_unicode.specs.Unicode.{unicode_source}
use Rattle.bidi_shown.proofs.FirstLemmas.{shown_text-first}
use Rattle.bidi_base.specs.Paragraphs.{own_chars}
use Rattle.bidi_shown.specs.Displayed.{after_first, shown_paragraph, shown_text}
use Rattle.bidi_shown.proofs.BoundsLemmas.{chars-some}
use Rattle.bidi_shown.proofs.text.push_first.Goals as goal

pub returns-clause-shown : goal.returns-clause-shown
returns-clause-shown c =
    let view = c.args.view in
    let text : List ℕ = chars c.args.text.now in
    let out : List ℕ = string_bytes c.args.out.now in
    let own : List ℕ = chars c.first_paragraph-first.result.own.now in
    let rest : List ℕ = chars c.first_paragraph-first.result.rest.now in
    let is_own : own ≡ own_chars unicode_source text = c.first_paragraph-first.ensures.own in
    let is_rest : rest ≡ after_first unicode_source text = c.first_paragraph-first.ensures.rest in
    let first = shown_text-first unicode_source view text (chars-some c.args.text.now c.utf8.text c.requires) in
    ap (λ l. l ++ shown_text unicode_source view rest) c.in_ok-push_paragraph.ensures
    ∙ append_assoc out (shown_paragraph unicode_source view own) (shown_text unicode_source view rest)
    ∙ ap (λ l. out ++ l) (simp (is_own, is_rest) (sym first))
