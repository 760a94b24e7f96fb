use Rattle.bidi_base.proofs.Common.{◌≡◌, ◌≢◌, ℕ, suc, ◌<◌, true, None, ◌∷◌, get_or, drop, refl, ◌∙◌, nat_le, list_all, arith}
use Rattle.bidi_unicode.specs.Rows.{row_value}
use Rattle.bidi_unicode.specs.declared.tables.TheConstants.{MIRRORED}
use Rattle.bidi_unicode.proofs.RowsLemmas.{row_value-other, row_value-before}
use Rattle.bidi_unicode.proofs.source.early_mirrored_row.Goals as goal

-- the rows after those below U+0F3A
others_are_later : list_all (λ r. nat_le 0x0F3A r.0) (drop 10 MIRRORED) ≡ true
others_are_later = refl

-- the row at an index
abbrev row : ℕ → ℕ × ℕ
row i = get_or MIRRORED i (0, 0)

none_early : (c : ℕ) → c < 0x0F3A → c ≢ 0x28 → c ≢ 0x29 → c ≢ 0x3C → c ≢ 0x3E → c ≢ 0x5B → c ≢ 0x5D → c ≢ 0x7B → c ≢ 0x7D → c ≢ 0xAB → c ≢ 0xBB → row_value MIRRORED c ≡ None
none_early c low a b d e f g h i j k =
    passed 0 a ∙ passed 1 b ∙ passed 2 d ∙ passed 3 e ∙ passed 4 f ∙ passed 5 g ∙ passed 6 h ∙ passed 7 i ∙ passed 8 j ∙ passed 9 k
    ∙ row_value-before (drop 10 MIRRORED) 0x0F3A c others_are_later low
  where
    passed : (i : ℕ) → c ≢ (row i).0 → row_value (row i ∷ drop (suc i) MIRRORED) c ≡ row_value (drop (suc i) MIRRORED) c
    passed i other = row_value-other (row i) (drop (suc i) MIRRORED) c other

pub returns-in_default-clause-absent : goal.returns-in_default-clause-absent
returns-in_default-clause-absent c = grind (arith, none_early c.args.c)
