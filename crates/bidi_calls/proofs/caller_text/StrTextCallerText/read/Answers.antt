use Rattle.bidi_base.proofs.Common.{is_utf8, is_utf8-from_IsUtf8, cases_Bool, inl, inr, arith, ap, ◌∙◌, chars}
use Rattle.std.proofs.lemmas.Str.{IsUtf8-from_is_utf8}
use Rattle.bidi_text.proofs.StrLemmas.{text_len-chars}
use Rattle.bidi_calls.proofs.caller_text.StrTextCallerText.read.Goals as goal

pub returns-in_err-utf8-clause-fault : goal.returns-in_err-utf8-clause-fault
returns-in_err-utf8-clause-fault c = elim (cases_Bool (is_utf8 c.args.units.now)) [
  | inl valid ↦ absurd (c.in_err-utf8.ensures.1 (IsUtf8-from_is_utf8 _ valid))
  | inr invalid ↦ grind arith
]

pub returns-clause-fault : goal.returns-clause-fault
returns-clause-fault c = rw (is_utf8-from_IsUtf8 c.args.units.now c.in_ok-utf8.ensures.1)

pub returns-clause-text : goal.returns-clause-text
returns-clause-text c =
    let same = c.new.ensures ∙ c.in_ok-utf8.ensures.0 in
    record {
      chars = ap chars same;
      units = same;
      len = rw same (text_len-chars c.args.units.now c.in_ok-utf8.ensures.1);
    }
