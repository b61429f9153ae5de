-- A call of the store by its own numbers is the request by births that its event is: so it is refused exactly where the count by births refuses that.
use Rattle.std.proofs.Common.{◌≡◌, ℕ, suc, ◌+◌, ◌≤◌, Bool, true, false, List, [], ◌∷◌, Some, None, Result, Ok, Err, refl, sym, ap, subst, ◌∙◌, arith}
use Rattle.std.specs.Prelude.{if◌then◌else◌}
use Rattle.arena_laws.specs.declared.refusal.StoreRefusal.{StoreRefusal}
use Rattle.arena_laws.specs.declared.refusal.StoreRefusal.TheVariants.{Full}
use Rattle.arena_laws.specs.declared.standing.Standing.TheVariants.{Lexical, Closed}
use Rattle.arena_laws.specs.Counts.{put, room_of, class_of, is_full, is_full_for_block, is_full_for_slot}
use Rattle.arena_laws.specs.Holdings.{Holdings, fresh, is_some}
use Rattle.arena_laws.specs.Lawful.{Answer, Grants, Refuses, Done, refuses, makes, takes_blocks, region_free, unique_free, key_open, key_close, key_free}
use Rattle.arena_laws.specs.Lawful as lawful
use Rattle.arena_laws.specs.Laws.{Does, is_refused_full, is_block_refused}
use Rattle.arena_laws.specs.Asked.{Asked, RegionNew, RegionAlloc, RegionFree, UniqueAlloc, UniqueFree, KeyNew, KeyOpen, KeyClose, KeyFree, lawfully, is_short}
use Rattle.arena_laws.specs.Pages as pages
use Rattle.arena_laws.specs.Pages.{ByBirth, unborn, counted, said, is_refused, refusals}
use Rattle.arena_laws.specs.Calls.{Names, no_names, IsCall, named, Run, Done as NoCall, Call, IsRun, refused_in}
use Rattle.arena_laws.proofs.Counting.{refused_by_count}
use Rattle.arena_laws.proofs.Rooms.{and_left}
use Rattle.rv32_machine.specs.Ledger.{Ledger, event_of, entered}
use Rattle.rv32_machine.specs.Ledger as ledger
use Rattle.exhaustion_proof.specs.Room.{asked}
use Rattle.exhaustion_proof.proofs.Granted.{was_made, was_placed, was_alone, was_freed, key_was_freed, was_opened, was_closed, was_dropped}
use Rattle.exhaustion_proof.proofs.Named.{AreNamed, fresh_named, born_named, freed_named, turned_named, placed_named, alone_named, dropped_named, taker_named}

plus_one : (n : ℕ) → n + 1 ≡ suc n
plus_one n = omega arith

-- ---- lists of calls

-- from here on the calls that are refused are those that the count by births refuses
abbrev pub AreCounted : Names → ByBirth → Holdings → Type 0
AreCounted names b s = (qs : List pages.Request) (run : Run) → IsRun names b s qs run → refused_in run ≡ refusals qs b

abbrev first : List Bool → Bool
first [] = false
first (x ∷ xs) = x

abbrev behind : List Bool → List Bool
behind [] = []
behind (x ∷ xs) = xs

module _ (names : Names) (b : ByBirth) (s : Holdings) (are : AreCounted names b s) (q : pages.Request) (r : Result ℕ StoreRefusal) (after : Holdings)
    (is : IsCall names q s r after) where
  answer_same : is_refused_full r ≡ is_refused q b.counts
  answer_same =
      let e : is_refused_full r ∷ [] ≡ is_refused q b.counts ∷ [] = are (q ∷ []) (Call r after NoCall) (is, tt) in
      ap first e

  counted_on : AreCounted (named q b r names) (said q b (is_refused_full r)) after
  counted_on = λ qs run goes.
      let e : is_refused_full r ∷ refused_in run ≡ is_refused q b.counts ∷ refusals qs (said q b (is_refused q b.counts)) =
      are (q ∷ qs) (Call r after run) (is, goes) in
      subst (λ t. refused_in run ≡ refusals qs (said q b t)) (sym answer_same) (ap behind e)

-- ---- the request that a call is

abbrev pub request : Asked → Ledger → pages.Request
request RegionNew l = pages.NewRegion
request (RegionAlloc h bytes) l = pages.BlockIn (l.birth_of h) bytes
request (RegionFree h) l = pages.FreeRegion (l.birth_of h)
request (UniqueAlloc bytes) l = pages.NewAlone bytes
request (UniqueFree at) l = pages.FreeAlone (l.alone_birth at)
request KeyNew l = pages.NewKey
request (KeyOpen k) l = pages.OpenKey (l.birth_of k)
request (KeyClose k) l = pages.CloseKey (l.birth_of k)
request (KeyFree k) l = pages.FreeKey (l.birth_of k)

pub asked_is : (a : Asked) (l : Ledger) → asked (event_of a l) ≡ Some (request a l)
asked_is RegionNew l = refl
asked_is (RegionAlloc h bytes) l = refl
asked_is (RegionFree h) l = refl
asked_is (UniqueAlloc bytes) l = refl
asked_is (UniqueFree at) l = refl
asked_is KeyNew l = refl
asked_is (KeyOpen k) l = refl
asked_is (KeyClose k) l = refl
asked_is (KeyFree k) l = refl

-- The store, the count by births and the ledger stand for the same.
pub record Stands (names : Names) (b : ByBirth) (s : Holdings) (l : Ledger) : Type 0 where
  pub are_counted : AreCounted names b s
  pub births : b.births ≡ l.births
  pub are_named : AreNamed names s l

pub fresh_stands : (count : ℕ) → Stands no_names (unborn count) (fresh count) ledger.unborn
fresh_stands count = record { are_counted = refused_by_count count; births = refl; are_named = fresh_named count }

-- ---- from the lawful law to the exact one

granted_exactly : (law : Answer → Done) (short : Bool) (s : Holdings) (a : Answer) (n : ℕ) → short ≡ false → law (Grants n) ≡ law a → (law a).says ≡ Ok n
    → Does (Ok n) (law a).after (if short then refuses Full s else law (Grants n))
granted_exactly law true s a n e is says = absurd cc
granted_exactly law false s a n e is says = subst (λ (d : Done). Does (Ok n) (law a).after d) (sym is) (record { says = sym says; holds = refl })

refused_exactly : (law : Done) (short : Bool) (s : Holdings) → short ≡ true → Does (Err Full) s (if short then refuses Full s else law)
refused_exactly law true s e = record { says = refl; holds = refl }
refused_exactly law false s e = absurd cc

-- what stands after a call that went well, which the count by births doesn't refuse
pub record GoesOn (b : ByBirth) (l : Ledger) (a : Asked) (n : ℕ) (after : Holdings) : Type 0 where
  pub names : Names
  pub stands : Stands names (counted (request a l) b) after (entered a n l)
  pub not_refused : is_refused (request a l) b.counts ≡ false

module _ (names : Names) (b : ByBirth) (s : Holdings) (l : Ledger) (stands : Stands names b s l) where
  -- ---- calls that went well

  goes : (a : Asked) (n : ℕ) (after : Holdings) → IsCall names (request a l) s (Ok n) after → (counted (request a l) b).births ≡ (entered a n l).births
      → AreNamed (named (request a l) b (Ok n) names) after (entered a n l) → GoesOn b l a n after
  goes a n after call births are_named = record {
    names = named (request a l) b (Ok n) names;
    stands = record { are_counted = counted_on names b s stands.are_counted (request a l) (Ok n) after call; births = births; are_named = are_named };
    not_refused = sym (answer_same names b s stands.are_counted (request a l) (Ok n) after call);
  }

  -- the names after a birth, by the count's births in place of the ledger's
  by_births : (n : ℕ) (after : Holdings) (m : Ledger) → AreNamed (record names { number = put (suc l.births) (Some n) names.number }) after m
      → AreNamed (record names { number = put (suc b.births) (Some n) names.number }) after m
  by_births n after m are = subst (λ k. AreNamed (record names { number = put (suc k) (Some n) names.number }) after m) (sym stands.births) are

  region_goes : (a : Answer) (n : ℕ) → (makes Lexical a s).says ≡ Ok n → is_full s.counts ≡ false → GoesOn b l RegionNew n (makes Lexical a s).after
  region_goes a n says short =
      let w = was_made Lexical a s n says in
      let are = born_named names s l stands.are_named Lexical n (entered RegionNew n l) w.new (plus_one l.births)
      (ap (λ k. put n k l.birth_of) (plus_one l.births)) refl in
      goes RegionNew n (makes Lexical a s).after
      (record {
        answers = record { law = granted_exactly (λ x. makes Lexical x s) (is_full s.counts) s a n short w.same says; full = sym short };
        in_order = refl;
      })
      (ap suc stands.births ∙ sym (plus_one l.births))
      (by_births n (makes Lexical a s).after (entered RegionNew n l)
      (subst (λ h. AreNamed (record names { number = put (suc l.births) (Some n) names.number }) h (entered RegionNew n l)) (sym w.after) are))

  key_goes : (a : Answer) (n : ℕ) → (makes Closed a s).says ≡ Ok n → is_full s.counts ≡ false → GoesOn b l KeyNew n (makes Closed a s).after
  key_goes a n says short =
      let w = was_made Closed a s n says in
      let are = born_named names s l stands.are_named Closed n (entered KeyNew n l) w.new (plus_one l.births)
      (ap (λ k. put n k l.birth_of) (plus_one l.births)) refl in
      goes KeyNew n (makes Closed a s).after
      (record {
        answers = record { law = granted_exactly (λ x. makes Closed x s) (is_full s.counts) s a n short w.same says; full = sym short };
        in_order = refl;
      })
      (ap suc stands.births ∙ sym (plus_one l.births))
      (by_births n (makes Closed a s).after (entered KeyNew n l)
      (subst (λ h. AreNamed (record names { number = put (suc l.births) (Some n) names.number }) h (entered KeyNew n l)) (sym w.after) are))

  -- a ledger with other blocks names the same
  with_blocks : (new : Names) (x : Holdings) (m : Ledger) → AreNamed new x l → m.births ≡ l.births → m.birth_of ≡ l.birth_of → m.alone_birth ≡ l.alone_birth
      → AreNamed new x m
  with_blocks new x m are e f g = record {
    heap = are.heap;
    heap_birth = ap (λ (k : ℕ → ℕ). k 0) f ∙ are.heap_birth;
    no_heap = are.no_heap;
    numbers = λ h some. ap (λ (k : ℕ → ℕ). new.number (k h)) f ∙ are.numbers h some;
    low = λ h. subst (λ (k : ℕ). m.birth_of h ≤ k) (sym e) (subst (λ (k : ℕ → ℕ). k h ≤ l.births) (sym f) (are.low h));
    blocks = λ at room owned. ap (λ (k : ℕ → ℕ). new.address (k at)) g ∙ are.blocks at room owned;
    low_blocks = λ at. subst (λ (k : ℕ). m.alone_birth at ≤ k) (sym e) (subst (λ (k : ℕ → ℕ). k at ≤ l.births) (sym g) (are.low_blocks at));
  }

  block_goes : (h bytes : ℕ) (a : Answer) (n : ℕ) → (lawful.region_alloc h bytes a s).says ≡ Ok n → is_block_refused h bytes s ≡ false
      → GoesOn b l (RegionAlloc h bytes) n (lawful.region_alloc h bytes a s).after
  block_goes h bytes a n says short =
      let w = was_placed h bytes a s n says in
      goes (RegionAlloc h bytes) n (lawful.region_alloc h bytes a s).after
      (record {
        answers = record {
          own = h;
          is = taker_named names s l stands.are_named h w.takes;
          says = record { law = granted_exactly (λ x. lawful.region_alloc h bytes x s) (is_block_refused h bytes s) s a n short w.same says; full = sym short };
        };
        in_order = refl;
      })
      stands.births
      (with_blocks names (lawful.region_alloc h bytes a s).after (entered (RegionAlloc h bytes) n l)
      (subst (λ x. AreNamed names x l) (sym w.after) (placed_named names s l stands.are_named h n (room_of bytes))) refl refl refl)

  alone_goes : (bytes : ℕ) (a : Answer) (n : ℕ) → (lawful.unique_alloc bytes a s).says ≡ Ok n → is_full_for_slot bytes s.counts ≡ false
      → GoesOn b l (UniqueAlloc bytes) n (lawful.unique_alloc bytes a s).after
  alone_goes bytes a n says short =
      let w = was_alone bytes a s n says in
      let are = alone_named names s l stands.are_named n (class_of bytes) (entered (UniqueAlloc bytes) n l) (plus_one l.births) refl
      (ap (λ k. put n k l.alone_birth) (plus_one l.births)) in
      goes (UniqueAlloc bytes) n (lawful.unique_alloc bytes a s).after
      (record {
        answers = record {
          law = granted_exactly (λ x. lawful.unique_alloc bytes x s) (is_full_for_slot bytes s.counts) s a n short w.same says;
          full = sym short;
        };
        in_order = refl;
      })
      (ap suc stands.births ∙ sym (plus_one l.births))
      (subst (λ k. AreNamed (record names { address = put (suc k) (Some n) names.address }) (lawful.unique_alloc bytes a s).after
      (entered (UniqueAlloc bytes) n l))
      (sym stands.births)
      (subst (λ x. AreNamed (record names { address = put (suc l.births) (Some n) names.address }) x (entered (UniqueAlloc bytes) n l)) (sym w.after) are))

  free_goes : (h n : ℕ) → (region_free h s).says ≡ Ok n → GoesOn b l (RegionFree h) n (region_free h s).after
  free_goes h n says =
      let w = was_freed h n s says in
      let are = freed_named names s l stands.are_named h w.was w.stood in
      let own = stands.are_named.numbers h (ap is_some w.stood) in
      goes (RegionFree h) n (region_free h s).after
      (record { answers = record { own = h; is = own; says = record { says = sym says; holds = refl } }; in_order = refl }) stands.births
      (with_blocks (named (request (RegionFree h) l) b (Ok n) names) (region_free h s).after (entered (RegionFree h) n l)
      (subst (λ x. AreNamed (record names { number = put (l.birth_of h) None names.number }) x l) (sym w.after) are) refl refl refl)

  key_free_goes : (h n : ℕ) → (key_free h s).says ≡ Ok n → GoesOn b l (KeyFree h) n (key_free h s).after
  key_free_goes h n says =
      let w = key_was_freed h n s says in
      let are = freed_named names s l stands.are_named h w.was w.stood in
      let own = stands.are_named.numbers h (ap is_some w.stood) in
      goes (KeyFree h) n (key_free h s).after
      (record { answers = record { own = h; is = own; says = record { says = sym says; holds = refl } }; in_order = refl }) stands.births
      (with_blocks (named (request (KeyFree h) l) b (Ok n) names) (key_free h s).after (entered (KeyFree h) n l)
      (subst (λ x. AreNamed (record names { number = put (l.birth_of h) None names.number }) x l) (sym w.after) are) refl refl refl)

  open_goes : (h n : ℕ) → (key_open h s).says ≡ Ok n → GoesOn b l (KeyOpen h) n (key_open h s).after
  open_goes h n says =
      let w = was_opened h n s says in
      let are = turned_named names s l stands.are_named h w.was w.now w.stood in
      let own = stands.are_named.numbers h (ap is_some w.stood) in
      goes (KeyOpen h) n (key_open h s).after
      (record { answers = record { own = h; is = own; says = record { says = sym says; holds = refl } }; in_order = refl }) stands.births
      (with_blocks names (key_open h s).after (entered (KeyOpen h) n l) (subst (λ x. AreNamed names x l) (sym w.after) are) refl refl refl)

  close_goes : (h n : ℕ) → (key_close h s).says ≡ Ok n → GoesOn b l (KeyClose h) n (key_close h s).after
  close_goes h n says =
      let w = was_closed h n s says in
      let are = turned_named names s l stands.are_named h w.was w.now w.stood in
      let own = stands.are_named.numbers h (ap is_some w.stood) in
      goes (KeyClose h) n (key_close h s).after
      (record { answers = record { own = h; is = own; says = record { says = sym says; holds = refl } }; in_order = refl }) stands.births
      (with_blocks names (key_close h s).after (entered (KeyClose h) n l) (subst (λ x. AreNamed names x l) (sym w.after) are) refl refl refl)

  drop_goes : (at n : ℕ) → (unique_free at s).says ≡ Ok n → GoesOn b l (UniqueFree at) n (unique_free at s).after
  drop_goes at n says =
      let w = was_dropped at n s says in
      let are = dropped_named names s l stands.are_named at w.room w.owned in
      let own = stands.are_named.blocks at w.room w.owned in
      goes (UniqueFree at) n (unique_free at s).after
      (record { answers = record { own = at; is = own; says = record { says = sym says; holds = refl } }; in_order = refl }) stands.births
      (with_blocks (named (request (UniqueFree at) l) b (Ok n) names) (unique_free at s).after (entered (UniqueFree at) n l)
      (subst (λ x. AreNamed (record names { address = put (l.alone_birth at) None names.address }) x l) (sym w.after) are) refl refl refl)

  pub goes_on : (asked : Asked) (a : Answer) (n : ℕ) → (lawfully asked a s).says ≡ Ok n → is_short asked s ≡ false
      → GoesOn b l asked n (lawfully asked a s).after
  goes_on RegionNew a n says short = region_goes a n says short
  goes_on (RegionAlloc h bytes) a n says short = block_goes h bytes a n says short
  goes_on (RegionFree h) a n says short = free_goes h n says
  goes_on (UniqueAlloc bytes) a n says short = alone_goes bytes a n says short
  goes_on (UniqueFree at) a n says short = drop_goes at n says
  goes_on KeyNew a n says short = key_goes a n says short
  goes_on (KeyOpen k) a n says short = open_goes k n says
  goes_on (KeyClose k) a n says short = close_goes k n says
  goes_on (KeyFree k) a n says short = key_free_goes k n says

  -- ---- calls that the store's counts refuse

  refused_as : (q : pages.Request) → IsCall names q s (Err Full) s → is_refused q b.counts ≡ true
  refused_as q call = sym (answer_same names b s stands.are_counted q (Err Full) s call)

  pub is_refused_too : (asked : Asked) → is_short asked s ≡ true → is_refused (request asked l) b.counts ≡ true
  is_refused_too RegionNew short =
      refused_as pages.NewRegion (record {
        answers = record { law = refused_exactly (makes Lexical Refuses s) (is_full s.counts) s short; full = sym short };
        in_order = refl;
      })
  is_refused_too (RegionAlloc h bytes) short =
      let takes = and_left (takes_blocks h (s.standing h)) (is_full_for_block h bytes s.counts) short in
      refused_as (pages.BlockIn (l.birth_of h) bytes) (record {
        answers = record {
          own = h;
          is = taker_named names s l stands.are_named h takes;
          says = record { law = refused_exactly (lawful.region_alloc h bytes Refuses s) (is_block_refused h bytes s) s short; full = sym short };
        };
        in_order = refl;
      })
  is_refused_too (UniqueAlloc bytes) short =
      refused_as (pages.NewAlone bytes) (record {
        answers = record { law = refused_exactly (lawful.unique_alloc bytes Refuses s) (is_full_for_slot bytes s.counts) s short; full = sym short };
        in_order = refl;
      })
  is_refused_too KeyNew short =
      refused_as pages.NewKey (record {
        answers = record { law = refused_exactly (makes Closed Refuses s) (is_full s.counts) s short; full = sym short };
        in_order = refl;
      })
  is_refused_too (RegionFree h) short = absurd cc
  is_refused_too (UniqueFree at) short = absurd cc
  is_refused_too (KeyOpen k) short = absurd cc
  is_refused_too (KeyClose k) short = absurd cc
  is_refused_too (KeyFree k) short = absurd cc
