-- A step, and what is made of it, in one.
use Rattle.std.proofs.Common.{◌≡◌, Ok, Err, refl}
use Rattle.cyc_parser.specs.Reader.{Outcome, ◌>>=◌}

pub made_of : {A B C : Type 0} (outcome : Outcome A) (x : B) (f : B → C)
    → ((outcome >>= λ y. Ok (x, y.1)) >>= λ z. Ok (f z.0, z.1)) ≡ (outcome >>= λ y. Ok (f x, y.1))
made_of (Ok y) x f = refl
made_of (Err fault) x f = refl
