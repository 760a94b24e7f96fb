mod NumbersLemmas
