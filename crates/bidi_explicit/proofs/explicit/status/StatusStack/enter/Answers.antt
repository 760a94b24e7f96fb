-- An opener that fits is pushed, and any other is counted.
use Rattle.bidi_base.proofs.Common.{arith}
use Rattle.bidi_explicit.proofs.StackLemmas.{entered_pushed, entered_overflow_isolate, entered_overflow_embedding, entered_inside, entry-is, fits_in-room}
use Rattle.bidi_explicit.proofs.explicit.status.StatusStack.enter.Goals as goal

pub push-requires : goal.push-requires
push-requires c =
    let s = c.self.inside in
    let room = fits_in-room c.requires.depth.0 c.args.class c.args.self.now s.top s.entries.items _ _ _ c.self.view_is c.self.invariant c.requires.depth.1 (grind arith) in
    (omega arith, room)

pub returns-then-is_isolate : goal.returns-then-is_isolate
returns-then-is_isolate c =
    let s = c.self.inside in
    entered_pushed c.args.class c.args.self.now s.top _ s.entries.items c.push.new.self.items
    s.overflow_isolates s.overflow_embeddings s.valid_isolates _ c.self.view_is c.self.invariant c.push.ensures.items (grind arith)
    (entry-is c.args.class c.args.self.now _ (grind arith) (grind arith) (grind arith)) (grind arith)

pub returns-else-is_isolate : goal.returns-else-is_isolate
returns-else-is_isolate c =
    let s = c.self.inside in
    entered_pushed c.args.class c.args.self.now s.top _ s.entries.items c.push.new.self.items
    s.overflow_isolates s.overflow_embeddings s.valid_isolates _ c.self.view_is c.self.invariant c.push.ensures.items (grind arith)
    (entry-is c.args.class c.args.self.now _ (grind arith) (grind arith) (grind arith)) (grind arith)

pub returns-then-is_isolate-2 : goal.returns-then-is_isolate-2
returns-then-is_isolate-2 c =
    let s = c.self.inside in
    entered_overflow_isolate c.args.class c.args.self.now s.top _ s.overflow_isolates s.overflow_embeddings s.valid_isolates c.self.view_is (grind arith) (grind arith)

pub returns-then-self-eq0 : goal.returns-then-self-eq0
returns-then-self-eq0 c =
    let s = c.self.inside in
    entered_overflow_embedding c.args.class c.args.self.now s.top _ s.overflow_isolates s.overflow_embeddings s.valid_isolates c.self.view_is (grind arith) (grind arith) (omega arith)

pub returns-else-self-eq0 : goal.returns-else-self-eq0
returns-else-self-eq0 c =
    let s = c.self.inside in
    entered_inside c.args.class c.args.self.now s.top _ s.overflow_isolates s.overflow_embeddings s.valid_isolates c.self.view_is (grind arith) (grind arith) (omega arith)
