-- Each class fills a page with its slots.
use Rattle.std.proofs.Common.{◌≡◌, ℕ, ◌*◌, ◌/◌, ◌%◌, ◌≤◌, Bool, true, false, refl, arith}
use Rattle.std.specs.Prelude.{nat_le, if◌then◌else◌}
use Rattle.arena_laws.specs.Counts.{class_of}
use Rattle.arena_laws.specs.Classes.{IsClass}

class_if : (t : Bool) (a b : ℕ) → IsClass a → IsClass b → IsClass (if t then a else b)
class_if true a b x y = x
class_if false a b x y = y

class_here : (a : ℕ) → 4096 / a * a ≡ 4096 → 4096 / a ≤ 128 → a % 8 ≡ 0 → 32 ≤ a → IsClass a
class_here a w f e s = record { whole = w; few = f; eights = e; some = s }

pub class_is : (bytes : ℕ) → IsClass (class_of bytes)
class_is bytes =
    class_if (nat_le bytes 32) 32 _ (class_here 32 refl (omega arith) refl (omega arith))
    (class_if (nat_le bytes 64) 64 _ (class_here 64 refl (omega arith) refl (omega arith))
    (class_if (nat_le bytes 128) 128 _ (class_here 128 refl (omega arith) refl (omega arith))
    (class_if (nat_le bytes 256) 256 _ (class_here 256 refl (omega arith) refl (omega arith))
    (class_if (nat_le bytes 512) 512 _ (class_here 512 refl (omega arith) refl (omega arith))
    (class_if (nat_le bytes 1024) 1024 _ (class_here 1024 refl (omega arith) refl (omega arith))
    (class_if (nat_le bytes 2048) 2048 4096 (class_here 2048 refl (omega arith) refl (omega arith)) (class_here 4096 refl (omega arith) refl
    (omega arith))))))))
