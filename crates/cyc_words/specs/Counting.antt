-- View of code: what a clause reads of a `Counted`.
use Rattle.std.specs.Prelude.{ℕ}
use Rattle.cyc_words.specs.declared.devices.Counted.{Counted}

-- the reader or the writer inside
abbrev pub inner_of : {T : Type 0} → Counted T → T
inner_of c = c.inner

-- how many of its calls have failed
abbrev pub count_of : {T : Type 0} → Counted T → ℕ
count_of c = c.faults
