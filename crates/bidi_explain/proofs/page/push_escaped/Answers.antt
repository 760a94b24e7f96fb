use Rattle.bidi_explain.proofs.PagesLemmas.{escaped-harmless}
use Rattle.bidi_explain.proofs.page.push_escaped.Goals as goal

pub returns-in_err-push_glyph-in_default-clause-harmless : goal.returns-in_err-push_glyph-in_default-clause-harmless
returns-in_err-push_glyph-in_default-clause-harmless c = escaped-harmless c.args.class c.args.c

pub returns-in_ok-push_glyph-in_default-clause-harmless : goal.returns-in_ok-push_glyph-in_default-clause-harmless
returns-in_ok-push_glyph-in_default-clause-harmless c = escaped-harmless c.args.class c.args.c
