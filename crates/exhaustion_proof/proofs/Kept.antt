-- A call that didn't go well leaves what the store holds.
use Rattle.std.proofs.Common.{◌≡◌, ℕ, Bool, true, false, Option, Some, None, Ok, Err, nat_eq, refl}
use Rattle.arena_laws.specs.declared.refusal.StoreRefusal.{StoreRefusal}
use Rattle.arena_laws.specs.declared.standing.Standing.{Standing}
use Rattle.arena_laws.specs.declared.standing.Standing.TheVariants.{Lexical, Opened, Closed}
use Rattle.arena_laws.specs.declared.owner.Owner.{Owner}
use Rattle.arena_laws.specs.declared.owner.Owner.TheVariants.{Region, Alone}
use Rattle.arena_laws.specs.Counts.{is_too_long, is_too_long_alone, room_of, class_of}
use Rattle.arena_laws.specs.Holdings.{Holdings}
use Rattle.arena_laws.specs.Lawful.{Answer, Grants, Refuses, Lacks, makes, is_new_number, takes_blocks, region_alloc, unique_alloc, unique_free}
use Rattle.arena_laws.specs.Lawful.{is_lawful_room, frees_region, opens, closes, frees_key}
use Rattle.arena_laws.specs.Asked.{Asked, RegionNew, RegionAlloc, RegionFree, UniqueAlloc, UniqueFree, KeyNew, KeyOpen, KeyClose, KeyFree, lawfully}

module _ (s : Holdings) (why : StoreRefusal) where
  made_by : (b : Bool) (standing : Standing) (h : ℕ) → is_new_number s h ≡ b → (makes standing (Grants h) s).says ≡ Err why
      → (makes standing (Grants h) s).after ≡ s
  made_by true standing h e says = absurd (let z : Ok h ≡ Err why = rw e at says in cc)
  made_by false standing h e says = rw e refl

  made_keeps : (standing : Standing) (a : Answer) → (makes standing a s).says ≡ Err why → (makes standing a s).after ≡ s
  made_keeps standing (Grants h) says = made_by (is_new_number s h) standing h refl says
  made_keeps standing Refuses says = refl
  made_keeps standing Lacks says = refl

  placed_at : (b : Bool) (h bytes at : ℕ) → takes_blocks h (s.standing h) ≡ true → is_too_long bytes ≡ false → is_lawful_room s at (room_of bytes) ≡ b
      → (region_alloc h bytes (Grants at) s).says ≡ Err why → (region_alloc h bytes (Grants at) s).after ≡ s
  placed_at true h bytes at takes short e says = absurd (let z : Ok at ≡ Err why = rw (takes, short, e) at says in cc)
  placed_at false h bytes at takes short e says = rw (takes, short, e) refl

  placed_as : (h bytes : ℕ) (a : Answer) → takes_blocks h (s.standing h) ≡ true → is_too_long bytes ≡ false → (region_alloc h bytes a s).says ≡ Err why
      → (region_alloc h bytes a s).after ≡ s
  placed_as h bytes (Grants at) takes short says = placed_at (is_lawful_room s at (room_of bytes)) h bytes at takes short refl says
  placed_as h bytes Refuses takes short says = rw (takes, short) refl
  placed_as h bytes Lacks takes short says = rw (takes, short) refl

  placed_by : (takes long : Bool) (h bytes : ℕ) (a : Answer) → takes_blocks h (s.standing h) ≡ takes → is_too_long bytes ≡ long
      → (region_alloc h bytes a s).says ≡ Err why → (region_alloc h bytes a s).after ≡ s
  placed_by false long h bytes a e f says = rw e refl
  placed_by true true h bytes a e f says = rw (e, f) refl
  placed_by true false h bytes a e f says = placed_as h bytes a e f says

  alone_at : (b : Bool) (bytes at : ℕ) → is_too_long_alone bytes ≡ false → is_lawful_room s at (class_of bytes) ≡ b
      → (unique_alloc bytes (Grants at) s).says ≡ Err why → (unique_alloc bytes (Grants at) s).after ≡ s
  alone_at true bytes at short e says = absurd (let z : Ok at ≡ Err why = rw (short, e) at says in cc)
  alone_at false bytes at short e says = rw (short, e) refl

  alone_by : (long : Bool) (bytes : ℕ) (a : Answer) → is_too_long_alone bytes ≡ long → (unique_alloc bytes a s).says ≡ Err why
      → (unique_alloc bytes a s).after ≡ s
  alone_by true bytes a e says = rw e refl
  alone_by false bytes (Grants at) e says = alone_at (is_lawful_room s at (class_of bytes)) bytes at e refl says
  alone_by false bytes Refuses e says = rw e refl
  alone_by false bytes Lacks e says = rw e refl

  region_by : (o : Option Standing) (h : ℕ) → (frees_region h o s).says ≡ Err why → (frees_region h o s).after ≡ s
  region_by (Some Lexical) h says = absurd cc
  region_by (Some Opened) h says = refl
  region_by (Some Closed) h says = refl
  region_by None h says = refl

  dropped_at : (b : Bool) (at start room : ℕ) → s.owner at ≡ Some (Alone start room) → nat_eq start at ≡ b → (unique_free at s).says ≡ Err why
      → (unique_free at s).after ≡ s
  dropped_at true at start room e f says = absurd (let z : Ok 0 ≡ Err why = rw (e, f) at says in cc)
  dropped_at false at start room e f says = rw (e, f) refl

  dropped_by : (o : Option Owner) (at : ℕ) → s.owner at ≡ o → (unique_free at s).says ≡ Err why → (unique_free at s).after ≡ s
  dropped_by None at e says = rw e refl
  dropped_by (Some (Region r)) at e says = rw e refl
  dropped_by (Some (Alone start room)) at e says = dropped_at (nat_eq start at) at start room e refl says

  open_by : (o : Option Standing) (k : ℕ) → (opens k o s).says ≡ Err why → (opens k o s).after ≡ s
  open_by (Some Lexical) k says = refl
  open_by (Some Opened) k says = refl
  open_by (Some Closed) k says = absurd cc
  open_by None k says = refl

  close_by : (o : Option Standing) (k : ℕ) → (closes k o s).says ≡ Err why → (closes k o s).after ≡ s
  close_by (Some Lexical) k says = refl
  close_by (Some Opened) k says = absurd cc
  close_by (Some Closed) k says = refl
  close_by None k says = refl

  free_by : (o : Option Standing) (k : ℕ) → (frees_key k o s).says ≡ Err why → (frees_key k o s).after ≡ s
  free_by (Some Lexical) k says = refl
  free_by (Some Opened) k says = refl
  free_by (Some Closed) k says = absurd cc
  free_by None k says = refl

  pub refusal_keeps : (asked : Asked) (a : Answer) → (lawfully asked a s).says ≡ Err why → (lawfully asked a s).after ≡ s
  refusal_keeps RegionNew a says = made_keeps Lexical a says
  refusal_keeps (RegionAlloc h bytes) a says = placed_by (takes_blocks h (s.standing h)) (is_too_long bytes) h bytes a refl refl says
  refusal_keeps (RegionFree h) a says = region_by (s.standing h) h says
  refusal_keeps (UniqueAlloc bytes) a says = alone_by (is_too_long_alone bytes) bytes a refl says
  refusal_keeps (UniqueFree at) a says = dropped_by (s.owner at) at refl says
  refusal_keeps KeyNew a says = made_keeps Closed a says
  refusal_keeps (KeyOpen k) a says = open_by (s.standing k) k says
  refusal_keeps (KeyClose k) a says = close_by (s.standing k) k says
  refusal_keeps (KeyFree k) a says = free_by (s.standing k) k says
