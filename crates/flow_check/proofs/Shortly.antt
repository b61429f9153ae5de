-- What flow asks for of the judgement of a part hangs on what is answered of it alone.
use Rattle.std.proofs.Common.{ap, refl, sym, ◌∙◌, ◌≡◌}
use Rattle.source_typing.specs.Moves.{in_block, is_moved, is_unique_value, place_at}
use Rattle.source_typing.specs.Scope.{Env, Value}
use Rattle.source_typing.specs.Verdicts.{Faulty, Of, Unjudged, Verdict}
use Rattle.check_faults.specs.Verdicts.{Short, shortened}
use Rattle.flow_check.specs.Short.{in_block_short, is_moved_short, is_unique_short, place_short}

pub moved_shortly : (g : Env) (v : Verdict Value) → is_moved g v ≡ is_moved_short g (shortened v)
moved_shortly g (Of v) = refl
moved_shortly g (Faulty f fs) = refl
moved_shortly g Unjudged = refl

pub unique_shortly : (v : Verdict Value) → is_unique_value v ≡ is_unique_short (shortened v)
unique_shortly (Of v) = refl
unique_shortly (Faulty f fs) = refl
unique_shortly Unjudged = refl

pub block_shortly : (v : Verdict Value) → in_block v ≡ in_block_short (shortened v)
block_shortly (Of v) = refl
block_shortly (Faulty f fs) = refl
block_shortly Unjudged = refl

pub placed_shortly : (v : Verdict Value) → place_at 0 v ≡ place_short (shortened v)
placed_shortly (Of v) = refl
placed_shortly (Faulty f fs) = refl
placed_shortly Unjudged = refl

-- ---- by what is answered

pub moved_by : (g : Env) (v : Verdict Value) (s : Short Value) → s ≡ shortened v → is_moved_short g s ≡ is_moved g v
moved_by g v s e = ap (is_moved_short g) e ∙ sym (moved_shortly g v)

pub unique_by : (v : Verdict Value) (s : Short Value) → s ≡ shortened v → is_unique_short s ≡ is_unique_value v
unique_by v s e = ap is_unique_short e ∙ sym (unique_shortly v)

pub block_by : (v : Verdict Value) (s : Short Value) → s ≡ shortened v → in_block_short s ≡ in_block v
block_by v s e = ap in_block_short e ∙ sym (block_shortly v)
