mod PointerWords
