-- What a frame shows stays where the maps are extended.
use Rattle.std.proofs.Common.{ℕ, ◌+◌, List, [], ◌∷◌}
use Rattle.core_meaning.specs.Memory.{Frame, Own}
use Rattle.core_lines.specs.Lies.{Maps, Extends, Zone, Activation}
use Rattle.core_lines.proofs.memory.Relations.{World, Waiting, Place, BlocksLie, back_of, FrameShows, StackShows}

blocks_on : (m n : Maps) (at : ℕ) (ps : List Place) (ks : List ℕ) (zs : List Zone) → Extends m n → BlocksLie m at ps ks zs → BlocksLie n at ps ks zs
blocks_on m n at [] [] [] e l = tt
blocks_on m n at (p ∷ ps) (k ∷ ks) (z ∷ zs) e l =
    (l.0, (λ o x h none. e.base (Frame k) o (at + x) (l.1 o x h none)), blocks_on m n at ps ks zs e l.2)
blocks_on m n at [] [] (z ∷ zs) e l = absurd l
blocks_on m n at [] (k ∷ ks) zs e l = absurd l
blocks_on m n at (p ∷ ps) [] zs e l = absurd l
blocks_on m n at (p ∷ ps) (k ∷ ks) [] e l = absurd l

pub frame_extends : (w : World) (m n : Maps) (x : Waiting) (back : ℕ) (a : Activation) → Extends m n → FrameShows w m x back a → FrameShows w n x back a
frame_extends w m n x back a e f = record {
  function = f.function;
  bytes = f.bytes;
  size = f.size;
  is = f.is;
  back_place = f.back_place;
  returns_to = f.returns_to;
  temps = f.temps;
  blocks = blocks_on m n a.at x.nest x.config.blocks a.zones e f.blocks;
  own = f.own;
  own_high = f.own_high;
  own_based = λ o y h. e.base (Own x.config.own) o (a.at + y) (f.own_based o y h);
  saved = f.saved;
  changed = f.changed;
  homes = f.homes;
}

pub stack_extends : (w : World) (m n : Maps) (xs : List Waiting) (fs : List Activation) → Extends m n → StackShows w m xs fs → StackShows w n xs fs
stack_extends w m n [] [] e s = tt
stack_extends w m n [] (a ∷ fs) e s = absurd s
stack_extends w m n (x ∷ xs) [] e s = absurd s
stack_extends w m n (x ∷ xs) (a ∷ fs) e s = (frame_extends w m n x (back_of w xs) a e s.0, stack_extends w m n xs fs e s.1)

-- ---- at a call of the environment
