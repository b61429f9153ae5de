-- What a call that went well says of the store before it and after it, over any lawful store.
use Rattle.std.proofs.Common.{◌≡◌, ℕ, Bool, true, false, Option, Some, None, Ok, Err, nat_eq, refl, ap, subst, ◌∙◌, arith}
use Rattle.std.proofs.lemmas.Bool.Decides.{nat_tests}
use Rattle.arena_laws.specs.declared.refusal.StoreRefusal.TheVariants.{Full, BadHandle, NotABlock, Memory}
use Rattle.arena_laws.specs.declared.standing.Standing.{Standing}
use Rattle.arena_laws.specs.declared.standing.Standing.TheVariants.{Lexical, Opened, Closed}
use Rattle.arena_laws.specs.declared.owner.Owner.{Owner}
use Rattle.arena_laws.specs.declared.owner.Owner.TheVariants.{Region, Alone}
use Rattle.arena_laws.specs.Counts.{is_too_long, is_too_long_alone, room_of, class_of}
use Rattle.arena_laws.specs.Holdings.{Holdings}
use Rattle.arena_laws.specs.Lawful.{Answer, Grants, Refuses, Lacks, Done, makes, with_number, is_new_number, takes_blocks}
use Rattle.arena_laws.specs.Lawful.{region_alloc, region_free, unique_alloc, unique_free, key_open, key_close, key_free, with_region_block, with_alone}
use Rattle.arena_laws.specs.Lawful.{without_number, without_alone, standing_as, is_lawful_room, frees_region, opens, closes, frees_key}

-- ---- a region or a key is made

pub record WasMade (standing : Standing) (a : Answer) (s : Holdings) (n : ℕ) : Type 0 where
  pub new : is_new_number s n ≡ true
  pub after : (makes standing a s).after ≡ with_number n standing s
  pub same : makes standing (Grants n) s ≡ makes standing a s

made_by : (b : Bool) (standing : Standing) (h n : ℕ) (s : Holdings) → is_new_number s h ≡ b → (makes standing (Grants h) s).says ≡ Ok n
    → WasMade standing (Grants h) s n
made_by true standing h n s e says =
    let is : h ≡ n = (let z : Ok h ≡ Ok n = rw e at says in cc) in
    subst (λ k. WasMade standing (Grants h) s k) is (record { new = e; after = rw e refl; same = refl })
made_by false standing h n s e says = absurd (let z : Err Full ≡ Ok n = rw e at says in cc)

pub was_made : (standing : Standing) (a : Answer) (s : Holdings) (n : ℕ) → (makes standing a s).says ≡ Ok n → WasMade standing a s n
was_made standing (Grants h) s n says = made_by (is_new_number s h) standing h n s refl says
was_made standing Refuses s n says = absurd cc
was_made standing Lacks s n says = absurd cc

-- ---- a block of a region

pub record WasPlaced (h bytes : ℕ) (a : Answer) (s : Holdings) (n : ℕ) : Type 0 where
  pub takes : takes_blocks h (s.standing h) ≡ true
  pub after : (region_alloc h bytes a s).after ≡ with_region_block h n (room_of bytes) s
  pub same : region_alloc h bytes (Grants n) s ≡ region_alloc h bytes a s

placed_at : (b : Bool) (h bytes at n : ℕ) (s : Holdings) → takes_blocks h (s.standing h) ≡ true → is_too_long bytes ≡ false
    → is_lawful_room s at (room_of bytes) ≡ b → (region_alloc h bytes (Grants at) s).says ≡ Ok n → WasPlaced h bytes (Grants at) s n
placed_at true h bytes at n s takes short e says =
    let is : at ≡ n = (let z : Ok at ≡ Ok n = rw (takes, short, e) at says in cc) in
    subst (λ k. WasPlaced h bytes (Grants at) s k) is (record { takes = takes; after = rw (takes, short, e) refl; same = refl })
placed_at false h bytes at n s takes short e says = absurd (let z : Err Full ≡ Ok n = rw (takes, short, e) at says in cc)

placed_as : (h bytes : ℕ) (a : Answer) (n : ℕ) (s : Holdings) → takes_blocks h (s.standing h) ≡ true → is_too_long bytes ≡ false
    → (region_alloc h bytes a s).says ≡ Ok n → WasPlaced h bytes a s n
placed_as h bytes (Grants at) n s takes short says = placed_at (is_lawful_room s at (room_of bytes)) h bytes at n s takes short refl says
placed_as h bytes Refuses n s takes short says = absurd (let z : Err Full ≡ Ok n = rw (takes, short) at says in cc)
placed_as h bytes Lacks n s takes short says = absurd (let z : Err Memory ≡ Ok n = rw (takes, short) at says in cc)

placed_by : (takes long : Bool) (h bytes : ℕ) (a : Answer) (n : ℕ) (s : Holdings) → takes_blocks h (s.standing h) ≡ takes → is_too_long bytes ≡ long
    → (region_alloc h bytes a s).says ≡ Ok n → WasPlaced h bytes a s n
placed_by false long h bytes a n s e f says = absurd (let z : Err BadHandle ≡ Ok n = rw e at says in cc)
placed_by true true h bytes a n s e f says = absurd (let z : Err Full ≡ Ok n = rw (e, f) at says in cc)
placed_by true false h bytes a n s e f says = placed_as h bytes a n s e f says

pub was_placed : (h bytes : ℕ) (a : Answer) (s : Holdings) (n : ℕ) → (region_alloc h bytes a s).says ≡ Ok n → WasPlaced h bytes a s n
was_placed h bytes a s n says = placed_by (takes_blocks h (s.standing h)) (is_too_long bytes) h bytes a n s refl refl says

-- ---- a unique block

pub record WasAlone (bytes : ℕ) (a : Answer) (s : Holdings) (n : ℕ) : Type 0 where
  pub after : (unique_alloc bytes a s).after ≡ with_alone n (class_of bytes) s
  pub same : unique_alloc bytes (Grants n) s ≡ unique_alloc bytes a s

alone_at : (b : Bool) (bytes at n : ℕ) (s : Holdings) → is_too_long_alone bytes ≡ false → is_lawful_room s at (class_of bytes) ≡ b
    → (unique_alloc bytes (Grants at) s).says ≡ Ok n → WasAlone bytes (Grants at) s n
alone_at true bytes at n s short e says =
    let is : at ≡ n = (let z : Ok at ≡ Ok n = rw (short, e) at says in cc) in
    subst (λ k. WasAlone bytes (Grants at) s k) is (record { after = rw (short, e) refl; same = refl })
alone_at false bytes at n s short e says = absurd (let z : Err Full ≡ Ok n = rw (short, e) at says in cc)

alone_as : (bytes : ℕ) (a : Answer) (n : ℕ) (s : Holdings) → is_too_long_alone bytes ≡ false → (unique_alloc bytes a s).says ≡ Ok n → WasAlone bytes a s n
alone_as bytes (Grants at) n s short says = alone_at (is_lawful_room s at (class_of bytes)) bytes at n s short refl says
alone_as bytes Refuses n s short says = absurd (let z : Err Full ≡ Ok n = rw short at says in cc)
alone_as bytes Lacks n s short says = absurd (let z : Err Memory ≡ Ok n = rw short at says in cc)

alone_by : (long : Bool) (bytes : ℕ) (a : Answer) (n : ℕ) (s : Holdings) → is_too_long_alone bytes ≡ long → (unique_alloc bytes a s).says ≡ Ok n
    → WasAlone bytes a s n
alone_by true bytes a n s e says = absurd (let z : Err Full ≡ Ok n = rw e at says in cc)
alone_by false bytes a n s e says = alone_as bytes a n s e says

pub was_alone : (bytes : ℕ) (a : Answer) (s : Holdings) (n : ℕ) → (unique_alloc bytes a s).says ≡ Ok n → WasAlone bytes a s n
was_alone bytes a s n says = alone_by (is_too_long_alone bytes) bytes a n s refl says

-- ---- what is freed, opened and closed

-- the number stood for this, and is free now
pub record WasFreed (h : ℕ) (s : Holdings) (done : Done) : Type 0 where
  pub was : Standing
  pub stood : s.standing h ≡ Some was
  pub after : done.after ≡ without_number h s

region_by : (o : Option Standing) (h n : ℕ) (s : Holdings) → s.standing h ≡ o → (frees_region h o s).says ≡ Ok n → WasFreed h s (frees_region h o s)
region_by (Some Lexical) h n s e says = record { was = Lexical; stood = e; after = refl }
region_by (Some Opened) h n s e says = absurd cc
region_by (Some Closed) h n s e says = absurd cc
region_by None h n s e says = absurd cc

pub was_freed : (h n : ℕ) (s : Holdings) → (region_free h s).says ≡ Ok n → WasFreed h s (region_free h s)
was_freed h n s says = region_by (s.standing h) h n s refl says

key_by : (o : Option Standing) (h n : ℕ) (s : Holdings) → s.standing h ≡ o → (frees_key h o s).says ≡ Ok n → WasFreed h s (frees_key h o s)
key_by (Some Lexical) h n s e says = absurd cc
key_by (Some Opened) h n s e says = absurd cc
key_by (Some Closed) h n s e says = record { was = Closed; stood = e; after = refl }
key_by None h n s e says = absurd cc

pub key_was_freed : (h n : ℕ) (s : Holdings) → (key_free h s).says ≡ Ok n → WasFreed h s (key_free h s)
key_was_freed h n s says = key_by (s.standing h) h n s refl says

-- a live number stands for something else now
pub record WasTurned (h : ℕ) (s : Holdings) (done : Done) : Type 0 where
  pub was : Standing
  pub now : Standing
  pub stood : s.standing h ≡ Some was
  pub after : done.after ≡ standing_as h now s

open_by : (o : Option Standing) (h n : ℕ) (s : Holdings) → s.standing h ≡ o → (opens h o s).says ≡ Ok n → WasTurned h s (opens h o s)
open_by (Some Lexical) h n s e says = absurd cc
open_by (Some Opened) h n s e says = absurd cc
open_by (Some Closed) h n s e says = record { was = Closed; now = Opened; stood = e; after = refl }
open_by None h n s e says = absurd cc

pub was_opened : (h n : ℕ) (s : Holdings) → (key_open h s).says ≡ Ok n → WasTurned h s (key_open h s)
was_opened h n s says = open_by (s.standing h) h n s refl says

close_by : (o : Option Standing) (h n : ℕ) (s : Holdings) → s.standing h ≡ o → (closes h o s).says ≡ Ok n → WasTurned h s (closes h o s)
close_by (Some Lexical) h n s e says = absurd cc
close_by (Some Opened) h n s e says = record { was = Opened; now = Closed; stood = e; after = refl }
close_by (Some Closed) h n s e says = absurd cc
close_by None h n s e says = absurd cc

pub was_closed : (h n : ℕ) (s : Holdings) → (key_close h s).says ≡ Ok n → WasTurned h s (key_close h s)
was_closed h n s says = close_by (s.standing h) h n s refl says

-- a unique block began there
pub record WasDropped (at : ℕ) (s : Holdings) : Type 0 where
  pub room : ℕ
  pub owned : s.owner at ≡ Some (Alone at room)
  pub after : (unique_free at s).after ≡ without_alone at room s

dropped_at : (b : Bool) (at start room n : ℕ) (s : Holdings) → s.owner at ≡ Some (Alone start room) → nat_eq start at ≡ b → (unique_free at s).says ≡ Ok n
    → WasDropped at s
dropped_at true at start room n s e f says =
    let is : start ≡ at = grind (arith, nat_tests) in
    record { room = room; owned = e ∙ ap (λ k. Some (Alone k room)) is; after = rw (e, f) refl }
dropped_at false at start room n s e f says = absurd (let z : Err NotABlock ≡ Ok n = rw (e, f) at says in cc)

dropped_by : (o : Option Owner) (at n : ℕ) (s : Holdings) → s.owner at ≡ o → (unique_free at s).says ≡ Ok n → WasDropped at s
dropped_by None at n s e says = absurd (let z : Err NotABlock ≡ Ok n = rw e at says in cc)
dropped_by (Some (Region r)) at n s e says = absurd (let z : Err NotABlock ≡ Ok n = rw e at says in cc)
dropped_by (Some (Alone start room)) at n s e says = dropped_at (nat_eq start at) at start room n s e refl says

pub was_dropped : (at n : ℕ) (s : Holdings) → (unique_free at s).says ≡ Ok n → WasDropped at s
was_dropped at n s says = dropped_by (s.owner at) at n s refl says
