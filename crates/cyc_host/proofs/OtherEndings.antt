-- An ending that isn't want of host memory, or a failed write in its place.
use Rattle.std.proofs.Common.{◌≡◌, ◌≢◌, ◌⊎◌, Bool, true, false, inl, inr, ap, sym, ◌∙◌}
use Rattle.cyc_host.specs.declared.ending.Ending.{Ending}
use Rattle.cyc_host.specs.declared.ending.Ending.TheVariants as ending

abbrev pub is_memory : Ending → Bool
is_memory ending.HostMemory = true
is_memory _ = false

pub isnt_memory : (why result : Ending) → (result ≡ why) ⊎ (result ≡ ending.WriteFault) → is_memory why ≡ false → result ≢ ending.HostMemory
isnt_memory why result (inl same) other is = absurd (let e : is_memory why ≡ true = ap is_memory (sym same ∙ is) in cc)
isnt_memory why result (inr same) other is = absurd (let e : is_memory ending.WriteFault ≡ true = ap is_memory (sym same ∙ is) in cc)
