-- Whether a vector has items, from the test of its length.
use Rattle.std.proofs.Common.{◌≡◌, true, false, ◌==◌, [], length, sym, ap, ◌∙◌, eq-eqb}
use Rattle.std.proofs.lemmas.Bool.{false≢true, eqb-true}
use Rattle.std.proofs.lemmas.List.{nil_from_length}
use Rattle.std.specs.Vec.{vec_len}
use Rattle.std.specs.declared.vec.Vec.{Vec}
use Rattle.std.specs.declared.alloc.Global.{Global}

pub has_items : {A : Type 0} (v : Vec A Global) → false ≡ (vec_len v == 0) → v.items ≡ [] → ⊥
has_items v test none = false≢true (test ∙ eq-eqb v.len 0 (v.ok.0 ∙ ap length none))

pub has_none : {A : Type 0} (v : Vec A Global) → true ≡ (vec_len v == 0) → v.items ≡ []
has_none v test = nil_from_length v.items (sym v.ok.0 ∙ eqb-true v.len 0 (sym test))
