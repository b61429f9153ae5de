-- How locals are linked: after a change of the table, with one local more, and with one less; and what a name is by its links.
use Rattle.std.proofs.Common.{◌≡◌, ℕ, suc, ◌≤◌, ◌<◌, List, [], ◌∷◌, ◌++◌, Bool, true, false, Bor, length, refl, sym, ap, subst, ◌∙◌, arith}
use Rattle.std.proofs.lemmas.Bool.Decides.{nat_tests}
use Rattle.std.proofs.lemmas.List.{length-map, length-reverse, reverse-append, reverse-reverse}
use Rattle.std.proofs.lemmas.Grind.{reverse_onto}
use Rattle.std.proofs.lemmas.Map.Text.{hash_map_updates_str}
use Rattle.std.specs.Cmp.Lexicographic.{bytes_decides}
use Rattle.std.specs.HashMap as hash
use Rattle.std.specs.HashMap.{HashMap}
use Rattle.std.specs.Prelude.{IsSome, None, Option, Some, bytes_eq, is_some, nat_le, option_map, reverse, slice_get, unwrap_or, ◌&&◌, ◌||◌, if◌then◌else◌}
use Rattle.check_regions.proofs.Extending.{got_last, got_other, one_longer}
use Rattle.check_scopes.specs.Linked.{AreLinked, Hide, each_known, known_of, last_in, position_of}
use Rattle.check_scopes.specs.Locals.{Known, dropped_to, find_what, is_after, known}
use Rattle.check_scopes.specs.declared.last.LastLocals.{LastLocals}
use Rattle.check_scopes.specs.declared.locals.Local.{Local}
use Rattle.check_scopes.specs.declared.locals.What.{What}

-- ---- the table

-- what a table has at its names is itself an option
unwrapped : (is_that : Bool) (position : Option ℕ) (others : Option (Option ℕ))
    → unwrap_or (if is_that then Some position else others) None ≡ (if is_that then position else unwrap_or others None)
unwrapped true position others = refl
unwrapped false position others = refl

-- a table with another last local of one name
pub last_updated : {S : Type 0} (name : List ℕ) (old new : HashMap (Bor (List ℕ)) (Option ℕ) S) (position : Option ℕ)
    → hash.UpdatesBy (λ x y. bytes_eq x.now y.now) (λ key. bytes_eq name key.now) old new (Some position)
    → (other : List ℕ) → unwrap_or (hash.get_by (λ key. bytes_eq other key.now) new) None
    ≡ (if bytes_eq name other then position else unwrap_or (hash.get_by (λ key. bytes_eq other key.now) old) None)
last_updated name old new position updates other =
    ap (λ o. unwrap_or o None) (hash_map_updates_str name old new (Some position) updates other)
    ∙ unwrapped (bytes_eq name other) position (hash.get_by (λ key. bytes_eq other key.now) old)

-- ---- one local more

-- the new local comes first
pub reversed_and : {X : Type 0} (xs : List X) (x : X) → reverse (xs ++ x ∷ []) ≡ x ∷ reverse xs
reversed_and xs x = reverse-append xs (x ∷ [])

pub known_and : (ls : List Local) (l : Local) → known_of (ls ++ l ∷ []) ≡ known l.name.now l.what ∷ known_of ls
known_and ls l = ap each_known (reversed_and ls l)

pub as_many : (ls : List Local) → length (known_of ls) ≡ length ls
as_many ls = length-map (reverse ls) (λ l. known l.name.now l.what) ∙ length-reverse ls

-- with one local more
pub linked_more : (ls : List Local) (l : Local) (old new : LastLocals) → AreLinked ls old → l.hidden ≡ last_in old l.name.now
    → ((other : List ℕ) → last_in new other ≡ (if bytes_eq l.name.now other then Some (length ls) else last_in old other))
    → AreLinked (ls ++ l ∷ []) new
linked_more ls l old new linked hidden added = record {
  hide = subst Hide (sym (reversed_and ls l)) (hidden ∙ linked.means l.name.now, linked.hide);
  means = λ other. added other
      ∙ ap (λ o. if bytes_eq l.name.now other then Some (length ls) else o) (linked.means other)
      ∙ ap (λ n. if bytes_eq l.name.now other then Some n else position_of (known_of ls) other) (sym (as_many ls))
      ∙ ap (λ ks. position_of ks other) (sym (known_and ls l));
}

-- ---- one local less

-- the last local's name is in the table
pub linked_last : (ls : List Local) (l : Local) (last : LastLocals) → AreLinked (ls ++ l ∷ []) last → IsSome (last_in last l.name.now)
linked_last ls l last linked =
    ap is_some (linked.means l.name.now
    ∙ ap (λ ks. position_of ks l.name.now) (known_and ls l)
    ∙ ap (λ b. if b then Some (length (known_of ls)) else position_of (known_of ls) l.name.now) ((bytes_decides l.name.now l.name.now).1 refl))

restored : (is_that : Bool) (position last others : Option ℕ) → (is_that ≡ true → position ≡ others)
    → (if is_that then position else if is_that then last else others) ≡ others
restored true position last others same = same refl
restored false position last others same = refl

-- with one local less
pub linked_less : (ls : List Local) (l : Local) (old new : LastLocals) → AreLinked (ls ++ l ∷ []) old
    → ((other : List ℕ) → last_in new other ≡ (if bytes_eq l.name.now other then l.hidden else last_in old other))
    → AreLinked ls new
linked_less ls l old new linked set =
    let hide : Hide (l ∷ reverse ls) = subst Hide (reversed_and ls l) linked.hide in
    record {
      hide = hide.1;
      means = λ other. set other
          ∙ ap (λ o. if bytes_eq l.name.now other then l.hidden else o) (linked.means other ∙ ap (λ ks. position_of ks other) (known_and ls l))
          ∙ restored (bytes_eq l.name.now other) l.hidden (Some (length (known_of ls))) (position_of (known_of ls) other)
          (λ same. hide.0 ∙ ap (position_of (known_of ls)) ((bytes_decides l.name.now other).0 same));
    }

-- the earliest are the same
pub dropped_and : (n : ℕ) (ls : List Local) (l : Local) → n ≤ length ls → dropped_to n (known_of (ls ++ l ∷ [])) ≡ dropped_to n (known_of ls)
dropped_and n ls l within =
    let m = as_many ls in
    let e : nat_le n (length (known_of ls)) ≡ true = grind (arith, nat_tests, m, within) in
    ap (dropped_to n) (known_and ls l) ∙ ap (λ b. if b then dropped_to n (known_of ls) else known l.name.now l.what ∷ known_of ls) e

-- where there are no more, all stay
pub none_dropped : (n : ℕ) (ks : List Known) → length ks ≤ n → dropped_to n ks ≡ ks
none_dropped n [] within = refl
none_dropped n (k ∷ ks) within =
    let e : nat_le n (length ks) ≡ false = grind (arith, nat_tests, within) in
    ap (λ b. if b then dropped_to n ks else k ∷ ks) e

-- where a block is left: what is linked still, and the earliest are as they were
pub record Leaves (count : ℕ) (old : List Known) (ls : List Local) (last : LastLocals) : Type 0 where
  pub linked : AreLinked ls last
  pub earliest : dropped_to count (known_of ls) ≡ dropped_to count old

module _ {count : ℕ} {old : List Known} (all ls : List Local) (l : Local) {last : LastLocals} (was : all ≡ ls ++ l ∷ []) (h : Leaves count old all last) where
  linked_all : AreLinked (ls ++ l ∷ []) last
  linked_all = subst (λ xs. AreLinked xs last) was h.linked

  pub last_is_there : IsSome (last_in last l.name.now)
  last_is_there = linked_last ls l last linked_all

  pub leaves_one : (new : LastLocals) → count < length all
      → ((other : List ℕ) → last_in new other ≡ (if bytes_eq l.name.now other then l.hidden else last_in last other))
      → Leaves count old ls new
  leaves_one new more set =
      let within : count ≤ length ls = grind (arith, subst (λ xs. count < length xs) was more, one_longer ls l) in
      record {
        linked = linked_less ls l last new linked_all set;
        earliest = sym (dropped_and count ls l within) ∙ ap (λ xs. dropped_to count (known_of xs)) (sym was) ∙ h.earliest;
      }

pub all_left : (count : ℕ) (old : List Known) (ls : List Local) (last : LastLocals) → Leaves count old ls last → length ls ≤ count
    → known_of ls ≡ dropped_to count old
all_left count old ls last h none =
    let m = as_many ls in
    sym (none_dropped count (known_of ls) (grind (arith, m, none))) ∙ h.earliest

-- ---- what a name is

-- the local at a position
abbrev pub what_at : List Local → Option ℕ → Option What
what_at ls None = None
what_at ls (Some p) = option_map (λ l. l.what) (slice_get ls p)

-- a position among these is one of a local
abbrev IsBelow : ℕ → Option ℕ → Type 0
IsBelow n None = Unit {0}
IsBelow n (Some p) = p < n

below_more : (b : Bool) (n : ℕ) (p : Option ℕ) → IsBelow n p → IsBelow (suc n) (if b then Some n else p)
below_more true n p h = grind arith
below_more false n None h = tt
below_more false n (Some p) h = grind (arith, h)

pub position_within : (ks : List Known) (x : List ℕ) → IsBelow (length ks) (position_of ks x)
position_within [] x = tt
position_within (k ∷ ks) x = below_more (bytes_eq k.name x) (length ks) (position_of ks x) (position_within ks x)

module _ (l : Local) (ls : List Local) where
  abbrev n : ℕ
  n = length (each_known ls)

  n_is : n ≡ length (reverse ls)
  n_is = length-map ls (λ l. known l.name.now l.what) ∙ sym (length-reverse ls)

  at_last : what_at (reverse (l ∷ ls)) (Some n) ≡ Some l.what
  at_last =
      ap (λ xs. option_map (λ l. l.what) (slice_get xs n)) (reverse_onto ls l [])
      ∙ ap (λ i. option_map (λ l. l.what) (slice_get (reverse ls ++ l ∷ []) i)) n_is
      ∙ ap (option_map (λ l. l.what)) (got_last (reverse ls) l)

  at_other : (p : Option ℕ) → IsBelow n p → what_at (reverse (l ∷ ls)) p ≡ what_at (reverse ls) p
  at_other None h = refl
  at_other (Some p) h =
      ap (λ xs. option_map (λ l. l.what) (slice_get xs p)) (reverse_onto ls l [])
      ∙ ap (option_map (λ l. l.what)) (got_other (reverse ls) l p (let m = n_is in grind (arith, nat_tests, m, h)))

  at_either : (b : Bool) (p : Option ℕ) → IsBelow n p
      → what_at (reverse (l ∷ ls)) (if b then Some n else p) ≡ (if b then Some l.what else what_at (reverse ls) p)
  at_either true p h = at_last
  at_either false p h = at_other p h

what_there : (rs : List Local) (x : List ℕ) → what_at (reverse rs) (position_of (each_known rs) x) ≡ find_what (each_known rs) x
what_there [] x = refl
what_there (r ∷ rs) x =
    at_either r rs (bytes_eq r.name.now x) (position_of (each_known rs) x) (position_within (each_known rs) x)
    ∙ ap (λ o. if bytes_eq r.name.now x then Some r.what else o) (what_there rs x)

-- what stands at the position of a name is what it is
pub found_at : (ls : List Local) (x : List ℕ) → what_at ls (position_of (known_of ls) x) ≡ find_what (known_of ls) x
found_at ls x = ap (λ xs. what_at xs (position_of (known_of ls) x)) (sym (reverse-reverse ls)) ∙ what_there (reverse ls) x

-- ---- a second one

-- whether a position is one after the first so many
abbrev pub is_past : ℕ → Option ℕ → Bool
is_past outer None = false
is_past outer (Some p) = nat_le outer p

-- none is after so many as there are
pub none_after : (ks : List Known) (outer : ℕ) (x : List ℕ) → length ks ≤ outer → is_after ks outer x ≡ false
none_after [] outer x h = refl
none_after (k ∷ ks) outer x h =
    let e : nat_le outer (length ks) ≡ false = grind (arith, nat_tests, h) in
    ap (λ b. (b && bytes_eq k.name x) || is_after ks outer x) e ∙ none_after ks outer x (grind (arith, h))

past_more : (is_this is_outer after : Bool) (n outer : ℕ) (p : Option ℕ) → nat_le outer n ≡ is_outer → is_past outer p ≡ after
    → (is_outer ≡ false → after ≡ false) → is_past outer (if is_this then Some n else p) ≡ (is_outer && is_this) || after
past_more true true after n outer p e same none = e
past_more true false after n outer p e same none = e ∙ sym (none refl)
past_more false true after n outer p e same none = same
past_more false false after n outer p e same none = same

-- the latest one of a name is after so many where any is
pub is_after_by : (ks : List Known) (outer : ℕ) (x : List ℕ) → is_past outer (position_of ks x) ≡ is_after ks outer x
is_after_by [] outer x = refl
is_after_by (k ∷ ks) outer x =
    past_more (bytes_eq k.name x) (nat_le outer (length ks)) (is_after ks outer x) (length ks) outer (position_of ks x) refl (is_after_by ks outer x)
    (λ e. none_after ks outer x (grind (arith, nat_tests, e)))
