-- What goes on behind an operation that sets a temporary or stores a part, wherever its code stands: loads, stores, and locals that are read and written.
use Rattle.std.specs.Prelude.{nat_eq, slice_get, length, if◌then◌else◌}
use Rattle.std.proofs.Common.{◌≡◌, ℕ, zero, suc, Bool, ◌+◌, ◌^◌, ◌<◌, ◌≤◌, ⊎_elim, true, false, List, [], ◌∷◌, ◌++◌, Some, None, refl, ap, subst, arith}
use Rattle.std.proofs.lemmas.Bool.{cases_lt}
use Rattle.core_meaning.specs.Memory.{Spot, Frame, Content, Pointer, Part, Memory, is_live, with_part, beyond}
use Rattle.core_meaning.specs.Steps.{Config, Step, with_temp, with_memory, checked}
use Rattle.core_meaning.specs.Operations.{reaches, local_spot, low_byte, fitting, too_far}
use Rattle.core_lines.specs.declared.line.Line.{Line}
use Rattle.core_lines.specs.Machines.{Machine}
use Rattle.core_lines.specs.Lines.{code_length}
use Rattle.core_lines.specs.Held.{Holding, result_register, with_result, with_local, with_put, with_source, without_register, Register}
use Rattle.core_lines.specs.Operands.{operand_in, operand_code, into_code, keep_code, stored_in, stored_code}
use Rattle.core_lines.specs.Selected.{Surroundings, nth, nth_block, read_code, write_code, get_code, byte_code, put_code}
use Rattle.core_lines.specs.Homes.{is_home}
use Rattle.core_lines.specs.Lies.{Maps, Activation}
use Rattle.core_meaning.specs.Selectable.{Scope, IsLocal}
use Rattle.core_lines.proofs.memory.Relations.{Phase, Inside, as_home, home_of, AreHomes, back_of, FrameShows}
use Rattle.core_lines.proofs.memory.Relations.{World, IsInOrder, Has, Waiting, Follows, keeping, At, Goes, active_of}
use Rattle.core_lines.proofs.memory.Moving.{Comes, comes_then, comes_as, goes_from, goes_nowhere}
use Rattle.core_lines.proofs.memory.Knowing.{reaches_near}
use Rattle.core_lines.proofs.frames.Going.{with_config, IsIn, GoesHolding}
use Rattle.core_lines.proofs.operations.Registers.{having, AtHolding, IsServed, at_any, with_there, as_holding}
use Rattle.core_lines.proofs.Forms.{frame_config}
use Rattle.core_lines.proofs.homes.Nests.{BlocksAre, local_small, local_found, home_found}
use Rattle.core_lines.proofs.homes.HomeOperations.{get_home, put_word, put_byte}
use Rattle.core_lines.proofs.operations.Needing.{checked_goes}
use Rattle.core_lines.proofs.operations.Parts.{load, store, get, put}

-- the offsets of an activation's temporary objects aren't large
abbrev pub OwnSmall : Waiting → Type 0
OwnSmall x = (o y : ℕ) → slice_get x.unnamed o ≡ Some y → y < 2 ^ 25

-- the offsets of the data aren't large
abbrev pub DataSmall : World → Type 0
DataSmall w = (o y : ℕ) → slice_get w.data_offsets o ≡ Some y → y < 2 ^ 25

-- the surroundings of an activation's code, and its scope
abbrev pub surrounding : World → Waiting → List (List ℕ) → List (List ℕ) → List ℕ → ℕ → List Holding → Surroundings
surrounding w x blocks homes names low held = record {
  wide = w.wide;
  passed = x.fn.passed;
  exit = w.exits x.function;
  own = x.unnamed;
  blocks = blocks;
  homes = homes;
  names = names;
  low = low;
  statics = w.data_offsets;
  held = held;
}

abbrev pub scoped : World → Waiting → List ℕ → Scope
scoped w x ns =
    record { temporaries = x.fn.temporaries; passed = x.fn.passed; blocks = ns; unnamed = length x.unnamed; data_objects = length w.data_offsets }

-- what is known of temporaries doesn't speak of the memory in a configuration
pub with_memory_holding : (w : World) (x : Waiting) (outer : List Waiting) (c : Config) (m : Memory) (place : ℕ) (hs : List Holding) (s : Machine)
    → AtHolding w (with_config x c) outer m place hs s → AtHolding w (with_config x (with_memory m c)) outer m place hs s
with_memory_holding w x outer c m place hs s a =
    let b = with_there w (with_config x c) outer m place hs s a in
    as_holding w (with_config x (with_memory m c)) outer m place hs s (record {
      maps = b.maps;
      frame = b.frame;
      others = b.others;
      sp = b.sp;
      stands = b.stands;
      shows = frame_config w b.maps x (back_of w outer) b.frame c (with_memory m c) refl refl refl b.shows;
      stack = b.stack;
      holds = b.holds;
    })

module _ (w : World) (order : IsInOrder w) (x : Waiting) (outer : List Waiting) (held : List Holding) (fuel place : ℕ) (next : Config → Step) where
  abbrev pub Ends : List Holding → List Line → Type 0
  Ends last lines = GoesHolding w x outer fuel (place + code_length lines) last next

  -- where a result has been saved or not
  abbrev pub EndsKeeping : List Bool → List Holding → List Line → Type 0
  EndsKeeping after last lines = GoesHolding w (keeping after x) outer fuel (place + code_length lines) last next

  abbrev pub At_first : Config → Machine → Type 0
  At_first c = AtHolding w (with_config x c) outer c.memory place held

  abbrev active : List (List ℕ)
  active = active_of w (x ∷ outer)

  -- what needs nothing of what is known
  pub comes_from_any : (c : Config) (R : Machine → Type 0) → Comes w (At w (with_config x c) outer c.memory place) R → Comes w (At_first c) R
  comes_from_any c R comes = comes_then w (At_first c) (At w (with_config x c) outer c.memory place) R
      (comes_as w (At_first c) (At w (with_config x c) outer c.memory place) (λ s a. at_any w (with_config x c) outer c.memory place held s a)) comes

  -- with a temporary set, or another memory, what goes on goes on
  pub sets : (c : Config) (after : List Bool) (t : ℕ) (v : Content) (last : List Holding) (lines : List Line) → IsIn x c
      → Comes w (At_first c) (AtHolding w (keeping after (having t v (with_config x c))) outer c.memory (place + code_length lines) last)
      → EndsKeeping after last lines → Goes w fuel (next (with_temp t v c)) (At_first c) active
  sets c after t v last lines is comes ends =
      goes_from w (At_first c) active fuel (next (with_temp t v c))
      (AtHolding w (with_config (keeping after x) (with_temp t v c)) outer c.memory (place + code_length lines) last)
      comes (ends (with_temp t v c) (record { blocks = is.blocks; own = is.own }))

  pub puts_part : (c : Config) (m : Memory) (last : List Holding) (lines : List Line) → IsIn x c
      → Comes w (At_first c) (AtHolding w (with_config x c) outer m (place + code_length lines) last)
      → Ends last lines → Goes w fuel (next (with_memory m c)) (At_first c) active
  puts_part c m last lines is comes ends =
      let end = place + code_length lines in
      goes_from w (At_first c) active fuel (next (with_memory m c)) (AtHolding w (with_config x (with_memory m c)) outer m end last)
      (comes_then w _ (AtHolding w (with_config x c) outer m end last) _ comes
      (comes_as w (AtHolding w (with_config x c) outer m end last) (AtHolding w (with_config x (with_memory m c)) outer m end last)
      (with_memory_holding w x outer c m end last)))
      (ends (with_memory m c) (record { blocks = is.blocks; own = is.own }))

  abbrev operand : ℕ → ℕ → List Line
  operand spare t = operand_code x.fn.passed held spare t

  abbrev value : ℕ → List Line
  value y = stored_code x.fn.passed held 6 y

  abbrev kept_lines : Bool → ℕ → List Line
  kept_lines keeps t = keep_code keeps x.fn.passed (result_register t) t

  -- a pointer that goes so far doesn't go too far: no part lies there
  pub reaches_goes : (c : Config) (s : Spot) (b : ℕ) (step : Step) → (b < too_far → Goes w fuel step (At_first c) active)
      → Goes w fuel (checked (reaches c.memory s b) step) (At_first c) active
  reaches_goes c s b step goes = checked_goes w (At_first c) active fuel (reaches c.memory s b) step (λ reach.
      ⊎_elim goes (λ (far : too_far ≤ b). goes_nowhere w (At_first c) active fuel step (λ q a.
      let h = at_any w (with_config x c) outer c.memory place held q a in
      let few = reaches_near h.maps c.memory q.store s b h.stands.known reach in omega (arith, few, far)))
      (cases_lt b too_far))

  abbrev load_lines : Bool → ℕ → ℕ → ℕ → ℕ → List Line
  load_lines keeps t p width off = operand 5 p ++ read_code (result_register t) width (operand_in held 5 p) off ++ kept_lines keeps t

  pub load_goes : (c : Config) (keeps : Bool) (after : List Bool) (t : ℕ) → t < x.fn.temporaries → Follows keeps (t ∷ []) x.kept after
      → (p cells j off b : ℕ) (s : Spot) → IsIn x c → p < x.fn.temporaries → IsServed w x held p → c.temps p ≡ Pointer s b
      → (part : Part) → c.memory.parts (beyond s cells) j ≡ Some part → is_live (c.memory.standing s.region) ≡ true → part.offset ≡ b + off
      → (width : ℕ) → part.width ≡ width → Has w place (load_lines keeps t p width off)
      → EndsKeeping after (with_result t held) (load_lines keeps t p width off) → Goes w fuel (next (with_temp t part.content c)) (At_first c) active
  load_goes c keeps after t named follows p cells j off b s is named' served points part part_is live offset width wide =
      subst (λ k. Has w place (load_lines keeps t p k off) → EndsKeeping after (with_result t held) (load_lines keeps t p k off)
      → Goes w fuel (next (with_temp t part.content c)) (At_first c) active) wide
      (λ has ends. sets c after t part.content (with_result t held) (load_lines keeps t p part.width off) is
      (load w order (with_config x c) outer c.memory held (beyond s cells) j part part_is live s b off refl refl offset keeps after t named follows p place
      named' served points has) ends)

  abbrev store_lines : ℕ → ℕ → ℕ → ℕ → List Line
  store_lines p y width off = operand 5 p ++ value y ++ write_code (stored_in held 6 y) width (operand_in held 5 p) off

  pub store_goes : (c : Config) (p y cells j off b : ℕ) (s : Spot) → IsIn x c → p < x.fn.temporaries → y < x.fn.temporaries → IsServed w x held p
      → IsServed w x held y → c.temps p ≡ Pointer s b
      → (part : Part) → c.memory.parts (beyond s cells) j ≡ Some part → is_live (c.memory.standing s.region) ≡ true → part.offset ≡ b + off
      → (width : ℕ) → part.width ≡ width → Has w place (store_lines p y width off) → Ends held (store_lines p y width off)
      → Goes w fuel (next (with_memory (with_part c.memory (beyond s cells) j (record part { content = fitting width (c.temps y) })) c)) (At_first c) active
  store_goes c p y cells j off b s is named named' served served' points part part_is live offset width wide =
      subst (λ k. Has w place (store_lines p y k off) → Ends held (store_lines p y k off)
      → Goes w fuel (next (with_memory (with_part c.memory (beyond s cells) j (record part { content = fitting k (c.temps y) })) c)) (At_first c) active) wide
      (λ has ends. puts_part c (with_part c.memory (beyond s cells) j (record part { content = fitting part.width (c.temps y) })) held
      (store_lines p y part.width off) is
      (store w order (with_config x c) outer c.memory held (beyond s cells) j part part_is live s b off refl refl offset p y place named named' served served'
      points has) ends)

  -- ---- locals

  module _ (ns : List ℕ) (oss hss : List (List ℕ)) (are : BlocksAre ns x.nest oss hss) where
    -- the memory where a local has another value
    abbrev local_with : Config → ℕ → ℕ → Part → Content → Memory
    local_with c k local part v = with_part c.memory (local_spot k local) 0 (record part { content = v })

    -- where the code looks for a local, it lies
    abbrev pub lies_at : ℕ → ℕ → ℕ
    lies_at out local = nth (nth_block oss out) local

    pub local_few : (out local : ℕ) → IsLocal ns out local → lies_at out local < 2 ^ 25
    local_few out local has_local = local_small ns x.nest oss hss out local are has_local

    pub local_lies : (c : Config) (out local k : ℕ) → IsLocal ns out local → home_of (nth_block hss out) local ≡ None → slice_get c.blocks out ≡ Some k
        → (m : Maps) (a : Activation) → FrameShows w m (with_config x c) (back_of w outer) a → m.base (Frame k) local ≡ Some (a.at + lies_at out local)
    local_lies c out local k has_local none block m a f =
        (local_found m a.at ns x.nest oss hss c.blocks a.zones out local k are none f.blocks has_local block).known

    module _ (names : List ℕ) (low : ℕ) (inside : x.phase ≡ Inside)
        (are_homes : (out local r : ℕ) → home_of (nth_block hss out) local ≡ Some r → is_home r ≡ true) where
      abbrev u : Surroundings
      u = surrounding w x oss hss names low held

      -- and in which register
      pub local_home_is : (c : Config) (out local k r : ℕ) → home_of (nth_block hss out) local ≡ Some r → slice_get c.blocks out ≡ Some k
          → (m : Maps) (a : Activation) → FrameShows w m (with_config x c) (back_of w outer) a → a.homes k local ≡ Some r
      local_home_is c out local k r home block m a f =
          home_found ns x.nest oss hss c.blocks a.homes out local k r are (subst (λ (q : Phase). AreHomes q x.nest c.blocks a.homes) inside f.homes).0 block
          home

      -- a read and a write of a part whose width is as the code has it
      abbrev get_lines : Bool → (t width out local : ℕ) → List Line
      get_lines keeps t width out local = read_code (result_register t) width 2 (lies_at out local) ++ kept_lines keeps t

      get_goes : (c : Config) (keeps : Bool) (after : List Bool) (t : ℕ) → t < x.fn.temporaries → Follows keeps (t ∷ []) x.kept after
          → (out local k : ℕ) → IsIn x c → IsLocal ns out local → home_of (nth_block hss out) local ≡ None → slice_get c.blocks out ≡ Some k
          → (part : Part) → c.memory.parts (local_spot k local) 0 ≡ Some part → is_live (c.memory.standing (Frame k)) ≡ true → part.offset ≡ 0
          → (width : ℕ) → part.width ≡ width → Has w place (get_lines keeps t width out local)
          → EndsKeeping after (with_result t held) (get_lines keeps t width out local)
          → Goes w fuel (next (with_temp t part.content c)) (At_first c) active
      get_goes c keeps after t named follows out local k is has_local none block part part_is live offset width wide =
          subst (λ k. Has w place (get_lines keeps t k out local) → EndsKeeping after (with_result t held) (get_lines keeps t k out local)
          → Goes w fuel (next (with_temp t part.content c)) (At_first c) active) wide
          (λ has ends. sets c after t part.content (with_result t held) (get_lines keeps t part.width out local) is
          (get w order (with_config x c) outer c.memory held (Frame k) local (lies_at out local) (local_few out local has_local)
          (local_lies c out local k has_local none block) part part_is live offset keeps after t named follows place has) ends)

      put_goes : (c : Config) (y out local k : ℕ) → IsIn x c → y < x.fn.temporaries → IsServed w x held y → IsLocal ns out local
          → home_of (nth_block hss out) local ≡ None → slice_get c.blocks out ≡ Some k
          → (part : Part) → c.memory.parts (local_spot k local) 0 ≡ Some part → is_live (c.memory.standing (Frame k)) ≡ true → part.offset ≡ 0
          → (width : ℕ) → part.width ≡ width → Has w place (value y ++ write_code (stored_in held 6 y) width 2 (lies_at out local))
          → Ends held (value y ++ write_code (stored_in held 6 y) width 2 (lies_at out local))
          → Goes w fuel (next (with_memory (local_with c k local part (fitting width (c.temps y))) c)) (At_first c) active
      put_goes c y out local k is named served has_local none block part part_is live offset width wide =
          subst (λ k'. Has w place (value y ++ write_code (stored_in held 6 y) k' 2 (lies_at out local))
          → Ends held (value y ++ write_code (stored_in held 6 y) k' 2 (lies_at out local))
          → Goes w fuel (next (with_memory (local_with c k local part (fitting k' (c.temps y))) c))
          (At_first c) active) wide
          (λ has ends. puts_part c (local_with c k local part (fitting part.width (c.temps y))) held
          (value y ++ write_code (stored_in held 6 y) part.width 2 (lies_at out local)) is
          (put w order (with_config x c) outer c.memory held (Frame k) local (lies_at out local) (local_few out local has_local)
          (local_lies c out local k has_local none block) part part_is live offset y place named served has) ends)

      -- wherever the local is
      pub get_either : (c : Config) (keeps : Bool) (after : List Bool) (t : ℕ) → t < x.fn.temporaries → Follows keeps (t ∷ []) x.kept after
          → (out local k width h : ℕ) → IsIn x c → IsLocal ns out local → nth (nth_block hss out) local ≡ h → slice_get c.blocks out ≡ Some k
          → (part : Part) → c.memory.parts (local_spot k local) 0 ≡ Some part → is_live (c.memory.standing (Frame k)) ≡ true → part.offset ≡ 0
          → part.width ≡ width → Has w place (get_code keeps u h t width (lies_at out local))
          → EndsKeeping after (with_local t h held) (get_code keeps u h t width (lies_at out local))
          → Goes w fuel (next (with_temp t part.content c)) (At_first c) active
      get_either c keeps after t named follows out local k width zero is has_local home block part part_is live offset wide has ends =
          get_goes c keeps after t named follows out local k is has_local (ap as_home home) block part part_is live offset width wide has ends
      get_either c keeps after t named follows out local k width (suc r) is has_local home block part part_is live offset wide has ends =
          sets c after t part.content (with_local t (suc r) held) (keep_code keeps x.fn.passed (suc r) t) is
          (get_home w order (with_config x c) outer c.memory held k local r (are_homes out local (suc r) (ap as_home home)) part part_is
          (local_home_is c out local k (suc r) (ap as_home home) block) keeps after t named follows place has) ends

      pub put_either : (c : Config) (y out local k width h : ℕ) → IsIn x c → y < x.fn.temporaries → IsServed w x held y → IsLocal ns out local
          → nth (nth_block hss out) local ≡ h → slice_get c.blocks out ≡ Some k
          → (part : Part) → c.memory.parts (local_spot k local) 0 ≡ Some part → is_live (c.memory.standing (Frame k)) ≡ true → part.offset ≡ 0
          → part.width ≡ width → Has w place (put_code u h width (lies_at out local) y)
          → Ends (with_put (nat_eq width 1) y h held) (put_code u h width (lies_at out local) y)
          → Goes w fuel (next (with_memory (local_with c k local part (fitting width (c.temps y))) c)) (At_first c) active
      put_either c y out local k width zero is named served has_local home block part part_is live offset wide has ends =
          put_goes c y out local k is named served has_local (ap as_home home) block part part_is live offset width wide has ends
      put_either c y out local k width (suc r) is named served has_local home block part part_is live offset wide has ends = by (nat_eq width 1) has ends
        where
          register : is_home (suc r) ≡ true
          register = are_homes out local (suc r) (ap as_home home)

          there : (m : Maps) (a : Activation) → FrameShows w m (with_config x c) (back_of w outer) a → a.homes k local ≡ Some (suc r)
          there = local_home_is c out local k (suc r) (ap as_home home) block

          by : (one : Bool) → Has w place (if one then byte_code u (suc r) y else into_code x.fn.passed held (suc r) y)
              → Ends (with_put one y (suc r) held) (if one then byte_code u (suc r) y else into_code x.fn.passed held (suc r) y)
              → Goes w fuel (next (with_memory (local_with c k local part (if one then low_byte (c.temps y) else c.temps y)) c)) (At_first c) active
          by true has ends = puts_part c (local_with c k local part (low_byte (c.temps y))) (without_register (suc r) held)
              (byte_code u (suc r) y) is
              (put_byte w order (with_config x c) outer c.memory held k local r register part part_is there y named served place has) ends
          by false has ends = puts_part c (local_with c k local part (c.temps y)) (with_source y (Register (suc r)) (without_register (suc r) held))
              (into_code x.fn.passed held (suc r) y) is
              (put_word w order (with_config x c) outer c.memory held k local r register part part_is there y named served place has) ends
