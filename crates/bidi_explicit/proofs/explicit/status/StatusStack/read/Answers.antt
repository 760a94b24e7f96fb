-- A PDI or a PDF closes and opens nothing, an opener closes nothing, and a separator does neither.
use Rattle.bidi_base.proofs.Common.{◌≡◌, arith, closed}
use Rattle.bidi_explicit.proofs.StackLemmas.{closed-pdi, closed-pdf, closed-other, opened-opener, opened-other}
use Rattle.bidi_explicit.proofs.explicit.status.StatusStack.read.Given.{Over}
use Rattle.bidi_explicit.proofs.explicit.status.StatusStack.read.Goals as goal
use Rattle.bidi_explicit.proofs.explicit.status.StatusStack.read.Goals.{In-LRI, In-LRE}

isolate_closes : (g : Over) (c : In-LRI g) → closed c.args.class c.args.self.now ≡ c.args.self.now
isolate_closes g c = grind (arith, closed-other) steps 400000

embedding_closes : (g : Over) (c : In-LRE g) → closed c.args.class c.args.self.now ≡ c.args.self.now
embedding_closes g c = grind (arith, closed-other) steps 400000

pub enter-requires-clause-depth : goal.enter-requires-clause-depth
enter-requires-clause-depth g c = simp (isolate_closes g (goal.at.enter-requires-clause-depth g c).In-LRI) at c.requires.depth

pub enter-requires-clause-counts : goal.enter-requires-clause-counts
enter-requires-clause-counts g c = simp (isolate_closes g (goal.at.enter-requires-clause-counts g c).In-LRI) at c.requires.counts

pub enter-requires-in-LRE-clause-depth : goal.enter-requires-in-LRE-clause-depth
enter-requires-in-LRE-clause-depth g c = simp (embedding_closes g (goal.at.enter-requires-in-LRE-clause-depth g c).In-LRE) at c.requires.depth

pub enter-requires-in-LRE-clause-counts : goal.enter-requires-in-LRE-clause-counts
enter-requires-in-LRE-clause-counts g c = simp (embedding_closes g (goal.at.enter-requires-in-LRE-clause-counts g c).In-LRE) at c.requires.counts

pub returns-in-LRI-clause-level : goal.returns-in-LRI-clause-level
returns-in-LRI-clause-level g c = grind (arith, closed-other) steps 400000

pub returns-in-LRI-clause-class : goal.returns-in-LRI-clause-class
returns-in-LRI-clause-class g c = grind (arith, closed-other) steps 400000

pub returns-in-LRI-clause-state : goal.returns-in-LRI-clause-state
returns-in-LRI-clause-state g c = grind (arith, closed-other, opened-opener) steps 400000

pub returns-in-LRE-clause-level : goal.returns-in-LRE-clause-level
returns-in-LRE-clause-level g c = grind (arith, closed-other) steps 400000

pub returns-in-LRE-clause-state : goal.returns-in-LRE-clause-state
returns-in-LRE-clause-state g c = grind (arith, closed-other, opened-opener) steps 400000

pub returns-in-PDI-clause-level : goal.returns-in-PDI-clause-level
returns-in-PDI-clause-level g c = grind (arith, closed-pdi) steps 400000

pub returns-in-PDI-clause-class : goal.returns-in-PDI-clause-class
returns-in-PDI-clause-class g c = grind (arith, closed-pdi) steps 400000

pub returns-in-PDI-clause-state : goal.returns-in-PDI-clause-state
returns-in-PDI-clause-state g c = grind (arith, closed-pdi, opened-other) steps 400000

pub returns-in-PDF-clause-level : goal.returns-in-PDF-clause-level
returns-in-PDF-clause-level g c = grind (arith, closed-pdf) steps 400000

pub returns-in-PDF-clause-state : goal.returns-in-PDF-clause-state
returns-in-PDF-clause-state g c = grind (arith, closed-pdf, opened-other) steps 400000

pub returns-in_default-clause-level : goal.returns-in_default-clause-level
returns-in_default-clause-level g c = grind arith steps 400000

pub returns-in_default-clause-class : goal.returns-in_default-clause-class
returns-in_default-clause-class g c = grind arith steps 400000

pub returns-in_default-clause-is_kept : goal.returns-in_default-clause-is_kept
returns-in_default-clause-is_kept g c = grind arith steps 400000

pub returns-in_default-clause-state : goal.returns-in_default-clause-state
returns-in_default-clause-state g c = grind (arith, closed-other, opened-other) steps 400000
