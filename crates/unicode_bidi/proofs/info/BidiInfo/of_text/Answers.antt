use Rattle.unicode_bidi.proofs.FoundLaws.{laws-obeyed}
use Rattle.unicode_bidi.proofs.info.BidiInfo.of_text.Goals as goal

pub returns-in_err-found-clause-laws : goal.returns-in_err-found-clause-laws
returns-in_err-found-clause-laws g c = laws-obeyed _ _

pub returns : goal.returns
returns g c = record {
  text = c.of_analysis.ensures.text;
  analysis = rw (c.of_analysis.ensures.analysed, c.of_analysis.ensures.paragraphs) c.in_ok-found.ensures.analysis;
  laws = laws-obeyed _ _;
}
