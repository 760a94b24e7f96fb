use Rattle.bidi_base.proofs.Common.{◌∙◌, ◌&&◌, ℕ, List, Option, length, ap, refl, sym, subst}
use Rattle.bidi_calls.specs.DisplayParts.{found_parts, has_room_for, WritesDisplay}
use Rattle.bidi_calls.specs.WholeText.{found_by, AreParts, WritesLevels}
use Rattle.bidi_calls.proofs.WholeTextLemmas.{all-parts, found-is, last-fault}
use Rattle.bidi_numbers.specs.Faults.{fault_unless, has_room_or_none, FaultsAs}
use Rattle.bidi_numbers.specs.declared.fault.Fault.{Fault}
use Rattle.bidi_numbers.specs.declared.fault.Fault.TheVariants.{NoRoom}
use Rattle.bidi_calls.proofs.whole_text.display_text.Goals as goal

pub returns-clause-fault : goal.returns-clause-fault
returns-clause-fault g c =
    let source = g.D.BidiDataSource.source c.args.data_source.now in
    let len_of = g.T.TextSource.encoding.len_of in
    let encode = g.T.LineText.encode in
    let cs : List ℕ = g.T.CallerText.chars_of c.args.text.now in
    let found = found_by source c.args.settings c.args.flags len_of encode cs in
    let lists = c.in_ok-found.found in
    let is = found-is source c.args.settings c.args.flags len_of encode cs c.in_ok-base.base c.in_ok-rule.rule c.in_ok-options.options c.mirrors_by.result.on (g.T.TextSource.text c.in_ok-text.text).chars
    c.in_ok-base.ensures.base c.in_ok-rule.ensures.rule c.in_ok-options.ensures.options c.mirrors_by.ensures c.in_ok-text.ensures.text.chars in
    let parts = subst (λ f. AreParts f lists.levels.items lists.shown.text.items lists.shown.order.items) is c.in_ok-found.ensures in
    let all = all-parts found cs lists.levels.items lists.shown.order.items lists.shown.text.items c.count_characters.result refl parts
    (c.count_characters.ensures ∙ ap length c.in_ok-text.ensures.text.chars) in
    let room : FaultsAs c.write_found.result (fault_unless (has_room_or_none (length found.levels) (length c.args.levels.now) && has_room_for found.parts c.args.out.now) NoRoom) =
    subst (λ p. FaultsAs c.write_found.result (fault_unless (has_room_or_none (length found.levels) (length c.args.levels.now) && has_room_for p c.args.out.now) NoRoom)) all
    (subst (λ (ls : List ℕ). FaultsAs c.write_found.result (fault_unless (has_room_or_none (length ls) (length c.args.levels.now) && has_room_for (found_parts lists.shown.text.items lists.shown.order.items c.count_characters.result) c.args.out.now) NoRoom)) parts.levels c.write_found.ensures.fault) in
    subst (λ (f : Option Fault). FaultsAs c.write_found.result f)
    (sym (last-fault _ _ _ _ _ c.in_ok-text.ensures.fault c.in_ok-base.ensures.fault c.in_ok-rule.ensures.fault c.in_ok-options.ensures.fault)) room

pub returns-clause-levels : goal.returns-clause-levels
returns-clause-levels g c =
    let source = g.D.BidiDataSource.source c.args.data_source.now in
    let len_of = g.T.TextSource.encoding.len_of in
    let encode = g.T.LineText.encode in
    let cs : List ℕ = g.T.CallerText.chars_of c.args.text.now in
    let found = found_by source c.args.settings c.args.flags len_of encode cs in
    let lists = c.in_ok-found.found in
    let is = found-is source c.args.settings c.args.flags len_of encode cs c.in_ok-base.base c.in_ok-rule.rule c.in_ok-options.options c.mirrors_by.result.on (g.T.TextSource.text c.in_ok-text.text).chars
    c.in_ok-base.ensures.base c.in_ok-rule.ensures.rule c.in_ok-options.ensures.options c.mirrors_by.ensures c.in_ok-text.ensures.text.chars in
    let parts = subst (λ f. AreParts f lists.levels.items lists.shown.text.items lists.shown.order.items) is c.in_ok-found.ensures in
    subst (λ (ls : List ℕ). WritesLevels ls c.write_found.result c.args.levels.now c.write_found.new.levels) parts.levels c.write_found.ensures.levels

pub returns-clause-writes : goal.returns-clause-writes
returns-clause-writes g c =
    let source = g.D.BidiDataSource.source c.args.data_source.now in
    let len_of = g.T.TextSource.encoding.len_of in
    let encode = g.T.LineText.encode in
    let cs : List ℕ = g.T.CallerText.chars_of c.args.text.now in
    let found = found_by source c.args.settings c.args.flags len_of encode cs in
    let lists = c.in_ok-found.found in
    let is = found-is source c.args.settings c.args.flags len_of encode cs c.in_ok-base.base c.in_ok-rule.rule c.in_ok-options.options c.mirrors_by.result.on (g.T.TextSource.text c.in_ok-text.text).chars
    c.in_ok-base.ensures.base c.in_ok-rule.ensures.rule c.in_ok-options.ensures.options c.mirrors_by.ensures c.in_ok-text.ensures.text.chars in
    let parts = subst (λ f. AreParts f lists.levels.items lists.shown.text.items lists.shown.order.items) is c.in_ok-found.ensures in
    let all = all-parts found cs lists.levels.items lists.shown.order.items lists.shown.text.items c.count_characters.result refl parts
    (c.count_characters.ensures ∙ ap length c.in_ok-text.ensures.text.chars) in
    subst (λ p. WritesDisplay p c.write_found.result c.args.out.now c.write_found.new.out) all c.write_found.ensures.writes
