mod BlocksLemmas
mod PagesLemmas
mod PlacesLemmas
mod SequencesLemmas
mod StagesLemmas
