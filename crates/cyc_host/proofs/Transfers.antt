-- Transfers: what a call has done by its answer, and bytes that are written one part after another.
use Rattle.std.proofs.Common.{◌≡◌, ℕ, ◌+◌, ◌-◌, true, false, List, [], ◌++◌, Option, Result, Ok, Err, sym, ap, ◌∙◌, subst, append_assoc, append-nil, length}
use Rattle.std.proofs.Common.{take, drop, take-append-drop}
use Rattle.std.specs.Result.{OnOk, OnErr, is_err}
use Rattle.std.proofs.lemmas.List.{take_rest}
use Rattle.std.proofs.Math.Seq.{take-append_seam, take-append-add}
use Rattle.std.specs.Io.KnownBytes.{Appends}
use Rattle.std.proofs.KnownBytes.{Appends-trans}
use Rattle.cyc_host.specs.Failures.{failed_once}
use Rattle.cyc_host.specs.Transfers.{WritesBut, WritesSome}

-- what a failed call has done, and what one that went well has
pub of_err : {T E P : Type 0} (r : Result T E) → OnErr r P → is_err r ≡ true → P
of_err (Ok v) p e = absurd (cc)
of_err (Err v) p e = p

pub of_ok : {T E P : Type 0} (r : Result T E) → OnOk r P → is_err r ≡ false → P
of_ok (Ok v) p e = p
of_ok (Err v) p e = absurd (cc)

pub counted_ok : {T E : Type 0} (r : Result T E) (old new : ℕ) → new ≡ failed_once r old → is_err r ≡ false → new ≡ old
counted_ok (Ok v) old new p e = p
counted_ok (Err v) old new p e = absurd (cc)

-- what `flush` does at its end
pub all_written : (old new : Option (List ℕ)) (bytes : List ℕ) → Appends old new bytes → WritesBut old new bytes []
all_written old new bytes p = record { written = bytes; appended = p; split = sym (append-nil bytes) }

-- the front of the bytes is some of them
pub some_front : (old new : Option (List ℕ)) (front rest : List ℕ) → Appends old new front → WritesSome old new (front ++ rest)
some_front old new front rest p = (length front, subst (Appends old new) (sym (take-append_seam front rest)) p)

-- some of the rest, after the front, is some of all
pub some_then : (old middle new : Option (List ℕ)) (front rest : List ℕ) → Appends old middle front → WritesSome middle new rest
    → WritesSome old new (front ++ rest)
some_then old middle new front rest p (count, q) =
    (length front + count, subst (Appends old new) (sym (take-append-add front rest count)) (Appends-trans _ _ _ _ _ p q))

-- the next write of some that were written in parts
pub some_more : (old middle new : Option (List ℕ)) (bytes done rest : List ℕ) (count : ℕ) → bytes ≡ done ++ rest
    → Appends old middle done → Appends middle new (take count rest) → WritesSome old new bytes
some_more old middle new bytes done rest count split p q = subst (WritesSome old new) (sym split) (some_then old middle new done rest p (count, q))

-- what was written and the rest, after a write
pub moves_front : (all done rest : List ℕ) (count : ℕ) → all ≡ done ++ rest → all ≡ (done ++ take count rest) ++ take (length rest - count) (drop count rest)
moves_front all done rest count e =
    e ∙ ap (λ l. done ++ l) (sym (take-append-drop count rest)) ∙ sym (append_assoc done (take count rest) (drop count rest))
    ∙ ap (λ l. (done ++ take count rest) ++ l) (sym (take_rest rest count))
