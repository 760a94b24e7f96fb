-- A pass over a slice of classes that rewrites it by a rule in context, and carries along the nearest class before that
-- passes a test.
use Rattle.bidi_base.proofs.Common.{◌≡◌, ℕ, ◌+◌, ◌<◌, Bool, cond, List, length, get_or, take, drop, set, reverse, sym, ◌∙◌, arith, nearest}
use Rattle.bidi_base.specs.declared.char_data.BidiClass.{BidiClass}
use Rattle.bidi_base.specs.declared.char_data.BidiClass.TheVariants.{L}
use Rattle.bidi_base.proofs.PlacesLemmas.{reverse-take_more, nearest-more}
use Rattle.bidi_laws.proofs.InPlace.{IsRewritten, IsRewritten-read, IsRewritten-write}

module _ (rule : List BidiClass → BidiClass → List BidiClass → BidiClass) (test : BidiClass → Bool) (start : BidiClass) where
  -- the first i classes are rewritten, and `nearest_one` is the nearest class before i that passes the test
  pub record IsScanned (old now : List BidiClass) (nearest_one : BidiClass) (i : ℕ) : Type 0 where
    pub rewritten : IsRewritten rule old now i
    pub is_nearest : nearest_one ≡ nearest test (reverse (take i old)) start

  nearest_later : (old now : List BidiClass) (s : BidiClass) (i : ℕ) (c : BidiClass) → IsScanned old now s i → i < length old → get_or now i L ≡ c
      → cond (test c) c s ≡ nearest test (reverse (take (i + 1) old)) start
  nearest_later old now s i c h fits is =
      let same : c ≡ get_or old i L = sym is ∙ IsRewritten-read rule old now i L h.rewritten in
      simp (same, h.is_nearest, reverse-take_more old i L fits, nearest-more)

  -- what the rule answers at i, where the class is c
  abbrev pub Answers : List BidiClass → BidiClass → ℕ → BidiClass → BidiClass → Type 0
  Answers old s i c y = (before after : List BidiClass) → s ≡ nearest test before start → y ≡ rule before c after

  answer_here : (old now : List BidiClass) (s : BidiClass) (i : ℕ) (c y : BidiClass) → IsScanned old now s i → get_or now i L ≡ c → Answers old s i c y
      → y ≡ rule (reverse (take i old)) (get_or old i L) (drop (i + 1) old)
  answer_here old now s i c y h is answers =
      simp (← IsRewritten-read rule old now i L h.rewritten, is) (answers (reverse (take i old)) (drop (i + 1) old) h.is_nearest)

  -- the rule's answer is written at i
  pub IsScanned-write : (old now : List BidiClass) (s t : BidiClass) (i : ℕ) (c y : BidiClass) → IsScanned old now s i → i < length old → get_or now i L ≡ c → t ≡ cond (test c) c s
      → Answers old s i c y → IsScanned old (set now i y) t (i + 1)
  IsScanned-write old now s t i c y h fits is next answers = grind (arith, IsRewritten-write rule old now i y L, answer_here old now s i c y h is answers, nearest_later old now s i c h fits is)
