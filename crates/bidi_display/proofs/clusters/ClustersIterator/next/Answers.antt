use Rattle.bidi_base.proofs.Common.{◌≡◌, ℕ, true, List, Some, None, take, reverse, refl, ◌∙◌, arith}
use Rattle.bidi_base.proofs.TextLemmas.{is_boundary-le}
use Rattle.bidi_base.specs.Texts.{char_at, char_index}
use Rattle.bidi_display.specs.Clusters.{is_cluster_boundary}
use Rattle.bidi_display.proofs.ClusterWalk.{IsReadTo-first, IsReadTo-more, boundary_read, char_index-end, cluster_ranges_from-end, cluster_ranges_from-next, is_char_at, is_cluster_boundary-end, text_len-end}
use Rattle.bidi_display.proofs.ClustersLemmas.{next-progress}
use Rattle.bidi_display.proofs.clusters.ClustersIterator.next.Goals.{in-Some+then-read, in_default}
use Rattle.bidi_display.proofs.clusters.ClustersIterator.next.Goals as goal

pub returns-then-start-len-clause-steps : goal.returns-then-start-len-clause-steps
returns-then-start-len-clause-steps g c =
    let none = cluster_ranges_from-end (g.T.TextSource.text c.args.self.now.text) c.args.self.now.start (c.if-start-len.true ∙ c.len.ensures) in (none, none)

pub overflow_add-at : goal.overflow_add-at
overflow_add-at g c =
    let text = g.T.TextSource.text c.args.self.now.text in
    let read : Some (c.in-Some.c, c.in-Some.len) ≡ char_at text c.chars.end = cc in
    let w = is_char_at text c.chars.end c.in-Some.c c.in-Some.len c.chars.invariant.read.ends read in
    omega (arith, w.fits, c.len.ensures, c.len.type_inv)

pub chars-smaller : goal.chars-smaller
chars-smaller g c =
    let text = g.T.TextSource.text c.args.self.now.text in
    let read : Some (c.in-Some.c, c.in-Some.len) ≡ char_at text c.chars.end = cc in
    let w = is_char_at text c.chars.end c.in-Some.c c.in-Some.len c.chars.invariant.read.ends read in
    omega (arith, w.fits, w.grows)

pub chars-preserved : goal.chars-preserved
chars-preserved g c =
    let text = g.T.TextSource.text c.args.self.now.text in
    let h = c.chars.invariant.read in
    let before : List ℕ = reverse (take (char_index text c.chars.end) text.chars) in
    let read : Some (c.in-Some.c, c.in-Some.len) ≡ char_at text c.chars.end = cc in
    let w = is_char_at text c.chars.end c.in-Some.c c.in-Some.len h.ends read in
    let joins = boundary_read text c.chars.end c.in-Some.c c.in-Some.len c.chars.state c.read.result w h.reads c.read.ensures.begins ∙ c.if-read.false in
    record {
      read = IsReadTo-more text c.args.self.now.start c.chars.end c.in-Some.c c.in-Some.len c.chars.state c.read.new.self h w joins (c.read.ensures.state before h.reads);
      same = refl;
    }

pub invariant_of-self-clause-within : goal.invariant_of-self-clause-within
invariant_of-self-clause-within g c =
    is_boundary-le g.T.TextSource.encoding.len_of (g.T.TextSource.text c.args.self.now.text).chars c.chars.end c.chars.invariant.read.ends

pub invariant_of-self-clause-begun : goal.invariant_of-self-clause-begun
invariant_of-self-clause-begun g c inside =
    let text = g.T.TextSource.text c.args.self.now.text in
    let h = c.chars.invariant.read in
    let before : List ℕ = reverse (take (char_index text c.chars.end) text.chars) in
    elim c.match-char_at.branch [
      | in-Some+then-read w ↦
          let read : Some (w.in-Some.c, w.in-Some.len) ≡ char_at text c.chars.end = cc in
          IsReadTo-first text c.chars.end w.in-Some.c w.in-Some.len c.match-char_at.at w.read.new.self c.match-char_at.state h.ends
          (is_char_at text c.chars.end w.in-Some.c w.in-Some.len h.ends read) (w.read.ensures.state before h.reads) w.at-is w.state-is
      | in_default w ↦
          let read : None ≡ char_at text c.chars.end = cc in
          absurd (omega (arith, text_len-end text c.chars.end h.ends read))
    ]

pub returns-clause-steps : goal.returns-clause-steps
returns-clause-steps g c =
    let text = g.T.TextSource.text c.args.self.now.text in
    let h = c.chars.invariant.read in
    let done : is_cluster_boundary text.chars (char_index text c.chars.end) ≡ true = elim c.match-char_at.branch [
      | in-Some+then-read w ↦
          let read : Some (w.in-Some.c, w.in-Some.len) ≡ char_at text c.chars.end = cc in
          boundary_read text c.chars.end w.in-Some.c w.in-Some.len c.chars.state w.read.result (is_char_at text c.chars.end w.in-Some.c w.in-Some.len h.ends read) h.reads w.read.ensures.begins ∙ w.if-read.true
      | in_default w ↦
          let read : None ≡ char_at text c.chars.end = cc in
          is_cluster_boundary-end text.chars (char_index text c.chars.end) (char_index-end text c.chars.end h.ends read)
    ] in
    cluster_ranges_from-next text c.args.self.now.start c.chars.end c.chars.state h done

pub returns-clause-goes : goal.returns-clause-goes
returns-clause-goes g c = next-progress _ c.args.self.now _ _ _ (returns-clause-steps g c) tt
