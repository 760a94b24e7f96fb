-- Who owns the memory of a box whose pointer stands alone.
use Rattle.std.specs.Prelude.{◌≡◌}
use base.Fml.{Fml, ftrue, fex}
use denote.RattleType.{RattleType}
use denote.RawPtr.{Ptr, null_ptr}
use Rattle.std.specs.declared.option.Option.{Option}
use Rattle.std.specs.declared.option.Option.TheVariants.{None, Some}
use Rattle.std.specs.declared.alloc.Global.{Global}
use Rattle.std.specs.contracts.impls.GlobalAllocator.TheImpl.{ghosts}
use Rattle.std_alloc.specs.Box.Ownership.{box_owns}

-- null with no value, or the address of a value with the right to free its memory
abbrev pub held_at : (R : RattleType) → Ptr → Option R.Denot → Fml
held_at R p None = fex (p ≡ null_ptr) (λ _. ftrue)
held_at R p (Some x) = fex Global (λ heap. box_owns (ghosts.dealloc_token heap) R p x)
