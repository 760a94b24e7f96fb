use Rattle.bidi_base.proofs.Common.{rules, leb, List, slice_get, subst, sym, ap, ◌∙◌, IsPartition}
use Rattle.std.specs.List.Sorted.{IsPartitionedBy}
use Rattle.std.proofs.lemmas.List.Sorted.{IsPartitionPoint-from_clause, IsPartitionedBy-leb}
use Rattle.bidi_base.specs.Texts.{text_len}
use Rattle.bidi_paragraphs.specs.declared.paragraph_info.ParagraphInfo.{ParagraphInfo}
use Rattle.bidi_paragraphs.specs.ParagraphInfo.{ranges_of}
use Rattle.unicode_bidi.specs.BidiInfo.{paragraphs}
use Rattle.unicode_bidi.proofs.ParagraphSearch.{ends-ascend, EndBefore, got, got-within, paragraph-found}
use Rattle.unicode_bidi.proofs.info.BidiInfo.paragraph_at.Given.{Over}
use Rattle.unicode_bidi.proofs.info.BidiInfo.paragraph_at.Goals as goal

-- where the search ends
point : (g : Over) (c : goal.After-get g) → EndBefore c.args.unit (paragraphs c.args.self.now) c.partition_point-before.result
point g c =
    let parted = subst (λ (xs : List ParagraphInfo). IsPartitionedBy (λ (p : ParagraphInfo). leb p.range.end c.args.unit) xs) (sym c.paragraphs.ensures.paragraphs)
    (IsPartitionedBy-leb (λ (p : ParagraphInfo). p.range.end) (paragraphs c.args.self.now) c.args.unit (ends-ascend _ _ _ c.args.self.now.partition)) in
    let found = IsPartitionPoint-from_clause (λ (p : ParagraphInfo). leb p.range.end c.args.unit) _ _ c.partition_point-before.ensures.partitioned parted (λ a r q k. search rules) in
    subst (λ (xs : List ParagraphInfo). EndBefore c.args.unit xs c.partition_point-before.result) c.paragraphs.ensures.paragraphs found

pub returns-clause-found : goal.returns-clause-found
returns-clause-found g c =
    got c.paragraphs-2.result.now c.partition_point-before.result c.get.result c.get.ensures.lookup.0 c.get.ensures.lookup.1
    ∙ ap (λ (xs : List ParagraphInfo). slice_get xs c.partition_point-before.result) c.paragraphs-2.ensures.paragraphs
    ∙ paragraph-found c.args.unit (paragraphs c.args.self.now) c.partition_point-before.result (point g c)

pub returns-clause-within : goal.returns-clause-within
returns-clause-within g c =
    let is = sym c.paragraphs-2.ensures.paragraphs in
    got-within c.args.unit _ c.paragraphs-2.result.now c.partition_point-before.result c.get.result
    (subst (λ (xs : List ParagraphInfo). IsPartition 0 (text_len (g.T.TextSource.text c.args.self.now.analysed.text)) (ranges_of xs)) is c.args.self.now.partition)
    (subst (λ (xs : List ParagraphInfo). EndBefore c.args.unit xs c.partition_point-before.result) is (point g c))
    c.get.ensures.lookup.0 c.get.ensures.lookup.1
