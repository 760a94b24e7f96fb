use Rattle.bidi_base.proofs.Common.{◌≡◌, ◌+◌, ◌++◌, arith, drop, map}
use Rattle.bidi_controls.specs.Decoded.{utf8_decoded, utf8_fault, fault_from}
use Rattle.bidi_controls.specs.FileLines.{file_lines_of}
use Rattle.bidi_controls.specs.FileSearch.{line_of}
use Rattle.bidi_controls.proofs.FoundLemmas.{joined-found, joined-fault}
use Rattle.bidi_controls.proofs.file_search.FileSearch.push_whole_lines.Goals as goal

pub returns-clause-found : goal.returns-clause-found
returns-clause-found c = λ more.
    let front = c.split_at.result.0.now in
    let rest = drop c.whole_lines_len-len.result c.args.bytes.now ++ more in
    let cut : file_lines_of (utf8_decoded (c.args.bytes.now ++ more)) ≡ file_lines_of (utf8_decoded front) ++ file_lines_of (utf8_decoded rest) =
    rw c.split_at.ensures.front (c.whole_lines_len-len.ensures.cut more) in
    let done = c.in_ok-push_last.ensures in
    rw done.sought
    (joined-found c.args.self.now.sought c.args.self.now.lines c.push_last.new.self.lines (c.args.bytes.now ++ more) front rest (map line_of c.args.found.now.items) (map line_of c.push_last.new.found.items)
    cut done.found done.lines)

pub returns-clause-invalid : goal.returns-clause-invalid
returns-clause-invalid c = λ more.
    let front = c.split_at.result.0.now in
    let len = c.whole_lines_len-len.result in
    let rest = drop len c.args.bytes.now ++ more in
    let cut : utf8_fault (c.args.bytes.now ++ more) ≡ fault_from (utf8_fault front) len rest = rw c.split_at.ensures.front (c.whole_lines_len-len.ensures.fault more) in
    let done = c.in_ok-push_last.ensures in
    let end : c.push_last.new.self.offset ≡ c.args.self.now.offset + len = omega (arith, done.offset, c.split_at.ensures.front_len) in
    joined-fault c.args.self.now.invalid c.push_last.new.self.invalid c.args.self.now.offset c.push_last.new.self.offset len (c.args.bytes.now ++ more) front rest cut done.invalid end
