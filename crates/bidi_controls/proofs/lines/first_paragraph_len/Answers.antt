use Rattle.bidi_base.proofs.Common.{◌≡◌, ℕ, ◌-◌, List, length, take, drop, sym, arith, length-drop, take_all, cr_lf_together}
use Rattle.bidi_controls.proofs.LinesLemmas.{IsUnbroken-more, IsUnbroken-ended, IsUnbroken-whole}
use Rattle.bidi_controls.proofs.lines.first_paragraph_len.Goals as goal

-- what is after an index
behind : (n : ℕ) (chars : List ℕ) → drop n chars ≡ take (length chars - n) (drop n chars)
behind n chars = sym (take_all (length chars - n) (drop n chars) (omega (arith, length-drop n chars)))

pub returns-then-ends_paragraph-clause-first : goal.returns-then-ends_paragraph-clause-first
returns-then-ends_paragraph-clause-first g c =
    grind (arith, behind, IsUnbroken-ended (cr_lf_together (g.D.BidiDataSource.source c.args.data_source.now)) c.args.chars.now)

pub loop-at-preserved : goal.loop-at-preserved
loop-at-preserved g c = record {
  ends = omega (arith, c.loop-at-test.true);
  unbroken = grind (arith, behind, IsUnbroken-more (cr_lf_together (g.D.BidiDataSource.source c.args.data_source.now)) c.args.chars.now);
}

pub returns-clause-first : goal.returns-clause-first
returns-clause-first g c =
    grind (arith, IsUnbroken-whole (cr_lf_together (g.D.BidiDataSource.source c.args.data_source.now)) c.args.chars.now)
