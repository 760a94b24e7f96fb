use Rattle.unicode_bidi.proofs.info.BidiInfo.of_text_with_base.Goals as goal

pub of_analysis-requires-clause-lines : goal.of_analysis-requires-clause-lines
of_analysis-requires-clause-lines g c = c.in_ok-found.ensures.analysis.paragraphs.partition.lines

pub of_analysis-requires-clause-partition : goal.of_analysis-requires-clause-partition
of_analysis-requires-clause-partition g c = c.in_ok-found.ensures.analysis.paragraphs.partition.partition

pub of_analysis-requires-clause-per_char : goal.of_analysis-requires-clause-per_char
of_analysis-requires-clause-per_char g c = record { classes = c.in_ok-found.ensures.analysis.paragraphs.per_char; levels = c.in_ok-found.ensures.analysis.per_char }

pub returns-clause-analysis : goal.returns-clause-analysis
returns-clause-analysis g c = rw (c.of_analysis.ensures.analysed, c.of_analysis.ensures.paragraphs) c.in_ok-found.ensures.analysis
