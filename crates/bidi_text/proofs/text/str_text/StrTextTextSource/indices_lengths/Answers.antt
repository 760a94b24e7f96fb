use Rattle.bidi_base.proofs.Common.{subst, sym, rules, IsUtf8, chars, len_utf8, YieldsList-from_first, indices_lengths_from}
use Rattle.bidi_text.specs.declared.text.str_text.Utf8IndexLenIter.{Utf8IndexLenIter}
use Rattle.bidi_text.proofs.StrLemmas.{lengths_left}
use Rattle.bidi_text.proofs.text.str_text.StrTextTextSource.indices_lengths.Goals as goal

pub returns : goal.returns
returns c = record {
  can_next = (subst IsUtf8 (sym c.new.ensures.rest) c.as_str.utf8, search rules);
  finite = tt;
  items = (YieldsList-from_first (λ p. p) (λ (s : Utf8IndexLenIter). lengths_left s.iter) (indices_lengths_from len_utf8 0 (chars c.args.self.text.now)) (rw (c.new.ensures.at, c.new.ensures.rest, c.as_str.ensures))).runs;
}
