-- What is written for a character between tags neither begins nor ends a tag.
use Rattle.bidi_base.proofs.Common.{◌≡◌, ℕ, ◌≤◌, true, false, arith, list_all, ◌==◌}
use Rattle.std.proofs.Math.Utf8.{encode}
use Rattle.bidi_base.specs.declared.char_data.BidiClass.{BidiClass}
use Rattle.bidi_explain.specs.Pages.{escaped, is_text_byte}

high : (b : ℕ) → 128 ≤ b → is_text_byte b ≡ true
high b h = grind arith

encoded : (c : ℕ) → (c == 0x3C) ≡ false → (c == 0x3E) ≡ false → list_all is_text_byte (encode c) ≡ true
unfolding encode
encoded c less greater = grind (arith, high)

pub escaped-harmless : (class : BidiClass) (c : ℕ) → list_all is_text_byte (escaped class c) ≡ true
escaped-harmless class c = grind (arith, encoded)
