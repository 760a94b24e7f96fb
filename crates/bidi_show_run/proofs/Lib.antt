mod PieceLines
mod ReadLemmas
mod ShownLemmas
mod TextsLemmas
mod WatchedLemmas
