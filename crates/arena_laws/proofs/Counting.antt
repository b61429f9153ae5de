-- Over a list of calls, those refused are the ones that the count by births refuses.
use Rattle.std.proofs.Common.{◌≡◌, ℕ, suc, Bool, true, false, List, [], ◌∷◌, Some, None, Result, Ok, Err, nat_eq, refl, sym, ap, subst, ◌∙◌, arith}
use Rattle.std.specs.Prelude.{◌&&◌, if◌then◌else◌}
use Rattle.std.proofs.lemmas.Bool.Decides.{nat_tests}
use Rattle.arena_laws.specs.declared.refusal.StoreRefusal.{StoreRefusal}
use Rattle.arena_laws.specs.declared.refusal.StoreRefusal.TheVariants.{Full, BadHandle, NotABlock, BadKey, Open, NotOpen, Memory}
use Rattle.arena_laws.specs.declared.standing.Standing.{Standing}
use Rattle.arena_laws.specs.declared.standing.Standing.TheVariants.{Lexical, Opened, Closed}
use Rattle.arena_laws.specs.Counts.{put, room_of, class_of, is_full, is_full_for_block}
use Rattle.arena_laws.specs.Holdings.{Holdings, fresh}
use Rattle.arena_laws.specs.Lawful.{Grants, takes_blocks, without_number, without_alone, standing_as}
use Rattle.arena_laws.specs.Laws.{Does, answer_of, is_refused_full, made, region_alloc, unique_alloc}
use Rattle.arena_laws.specs.Pages.{Request, NewRegion, BlockIn, FreeRegion, NewAlone, FreeAlone, NewKey, OpenKey, CloseKey, FreeKey, ByBirth, unborn, born}
use Rattle.arena_laws.specs.Pages.{is_refused, counted, said, refusals}
use Rattle.arena_laws.specs.Calls.{Names, no_names, Agree, Answers, is_granted_or_full, named, Run, Done, Call, IsRun, refused_in, RefusedByCount}
use Rattle.arena_laws.proofs.Births.{Gives, out_of_order, full_left, made_left, born_agrees, region_freed, key_freed, key_opened, key_closed, freed_agrees}
use Rattle.arena_laws.proofs.Births.{turned_agrees}
use Rattle.arena_laws.proofs.Rooms.{full_same, block_full, alone_full, block_placed, alone_placed, block_agrees, same_block_full, alone_agrees, same_slot_full}
use Rattle.arena_laws.proofs.Rooms.{alone_freed, alone_freed_agrees}
use Rattle.arena_laws.proofs.Classes.{class_is}

-- a call's answer is the count's, and the counts agree after it
pub record IsStep (names : Names) (q : Request) (b : ByBirth) (result : Result ℕ StoreRefusal) (after : Holdings) : Type 0 where
  pub same : is_refused_full result ≡ is_refused q b.counts
  pub agrees : Agree (named q b result names) (said q b (is_refused_full result)) after

-- a result in order is a grant or Full
went : (P : Result ℕ StoreRefusal → Type 0) (r : Result ℕ StoreRefusal) → is_granted_or_full r ≡ true → ((n : ℕ) → P (Ok n)) → P (Err Full) → P r
went P (Ok n) e f g = f n
went P (Err Full) e f g = g
went P (Err BadHandle) e f g = absurd (cc)
went P (Err NotABlock) e f g = absurd (cc)
went P (Err BadKey) e f g = absurd (cc)
went P (Err Open) e f g = absurd (cc)
went P (Err NotOpen) e f g = absurd (cc)
went P (Err Memory) e f g = absurd (cc)

-- a call that takes nothing gave its number, and its agreement is that of a grant
gave : (names : Names) (q : Request) (b : ByBirth) (n : ℕ) (left : Holdings) (r : Result ℕ StoreRefusal) (after : Holdings) → is_refused q b.counts ≡ false →
    Gives n left r after →
    Agree (named q b (Ok n) names) (counted q b) left → IsStep names q b r after
gave names q b n left r after short g a = record {
  same = ap is_refused_full g.says ∙ sym short;
  agrees = subst (λ r. Agree (named q b r names) (said q b (is_refused_full r)) after) (sym g.says) (subst (λ h. Agree (named q b (Ok n) names)
      (counted q b) h) (sym g.holds) a);
}

module _ (names : Names) (b : ByBirth) (s after : Holdings) (a : Agree names b s) where
  is_full_same : is_full s.counts ≡ is_full b.counts
  is_full_same = full_same names b s a

  kept : after ≡ s → Agree names b after
  kept e = subst (Agree names b) (sym e) a

  made_agrees : (standing : Standing) (n : ℕ) → Does (Ok n) after (made standing (Grants n) s) →
      Agree (record names { number = put (suc b.births) (Some n) names.number }) (born b) after
  made_agrees standing n d =
      let m = made_left standing n s after d in
      subst (λ h. Agree (record names { number = put (suc b.births) (Some n) names.number }) (born b) h) (sym m.left) (born_agrees names b s n standing m.new a)

  region_step : (r : Result ℕ StoreRefusal) → is_granted_or_full r ≡ true → Answers names NewRegion s r after → IsStep names NewRegion b r after
  region_step r g w = record {
    same = w.full ∙ is_full_same;
    agrees = went (λ r. Does r after (made Lexical (answer_of r) s) → Agree (named NewRegion b r names) (said NewRegion b (is_refused_full r)) after) r g
        (λ n d. made_agrees Lexical n d) (λ d. kept (full_left Lexical s after d)) w.law;
  }

  key_step : (r : Result ℕ StoreRefusal) → is_granted_or_full r ≡ true → Answers names NewKey s r after → IsStep names NewKey b r after
  key_step r g w = record {
    same = w.full ∙ is_full_same;
    agrees = went (λ r. Does r after (made Closed (answer_of r) s) → Agree (named NewKey b r names) (said NewKey b (is_refused_full r)) after) r g
        (λ n d. made_agrees Closed n d) (λ d. kept (full_left Closed s after d)) w.law;
  }

  -- a block in order is asked of a handle in order
  takes_true : (h bytes : ℕ) (r : Result ℕ StoreRefusal) → is_granted_or_full r ≡ true → Does r after (region_alloc h bytes (answer_of r) s) →
      takes_blocks h (s.standing h) ≡ true
  takes_true h bytes r g d = by_takes (takes_blocks h (s.standing h)) refl
    where
      by_takes : (t : Bool) → takes_blocks h (s.standing h) ≡ t → t ≡ true
      by_takes true e = refl
      by_takes false e = absurd (out_of_order r BadHandle g (rw e at d).says refl)

  block_step : (d bytes : ℕ) (r : Result ℕ StoreRefusal) → is_granted_or_full r ≡ true → Answers names (BlockIn d bytes) s r after →
      IsStep names (BlockIn d bytes) b r after
  block_step d bytes r g w =
      let h = w.own in
      let takes = takes_true h bytes r g w.says.law in
      record {
        same = w.says.full ∙ ap (λ t. t && is_full_for_block h bytes s.counts) takes ∙ same_block_full names b s d h bytes w.is a;
        agrees = went (λ r. Does r after (region_alloc h bytes (answer_of r) s) →
            Agree (named (BlockIn d bytes) b r names) (said (BlockIn d bytes) b (is_refused_full r)) after) r g
            (λ n does. let m = block_placed h bytes n s after does in
            subst (Agree names (counted (BlockIn d bytes) b)) (sym m.left) (block_agrees names b s d h (room_of bytes) n w.is m.lawful a))
            (λ does. kept (block_full h bytes s after does)) w.says.law;
      }

  alone_step : (bytes : ℕ) (r : Result ℕ StoreRefusal) → is_granted_or_full r ≡ true → Answers names (NewAlone bytes) s r after →
      IsStep names (NewAlone bytes) b r after
  alone_step bytes r g w = record {
    same = w.full ∙ same_slot_full names b s bytes a;
    agrees = went (λ r. Does r after (unique_alloc bytes (answer_of r) s) → Agree (named (NewAlone bytes) b r names) (said (NewAlone bytes) b
        (is_refused_full r)) after) r g
        (λ n does. let m = alone_placed bytes n s after does in let c = (class_is bytes).some in
        subst (Agree (record names { address = put (suc b.births) (Some n) names.address }) (counted (NewAlone bytes) b)) (sym m.left)
        (alone_agrees names b s (class_of bytes) n (omega (arith, c)) m.lawful a))
        (λ does. kept (alone_full bytes s after does)) w.law;
  }

  step : (q : Request) (r : Result ℕ StoreRefusal) → is_granted_or_full r ≡ true → Answers names q s r after → IsStep names q b r after
  step NewRegion r g w = region_step r g w
  step (BlockIn d bytes) r g w = block_step d bytes r g w
  step (FreeRegion d) r g w =
      let f = region_freed w.own s r after g w.says in
      gave names (FreeRegion d) b 0 (without_number w.own s) r after refl f.gives (freed_agrees names b s d w.own w.is f.was a)
  step (NewAlone bytes) r g w = alone_step bytes r g w
  step (FreeAlone d) r g w =
      gave names (FreeAlone d) b 0 (without_alone w.own (b.class d) s) r after refl (alone_freed names b s d w.own w.is a r after w.says)
      (alone_freed_agrees names b s d w.own w.is a)
  step NewKey r g w = key_step r g w
  step (OpenKey d) r g w =
      let f = key_opened w.own s r after g w.says in
      gave names (OpenKey d) b w.own (standing_as w.own Opened s) r after refl f.gives (turned_agrees names b s w.own Opened f.was a)
  step (CloseKey d) r g w =
      let f = key_closed w.own s r after g w.says in
      gave names (CloseKey d) b 0 (standing_as w.own Closed s) r after refl f.gives (turned_agrees names b s w.own Closed f.was a)
  step (FreeKey d) r g w =
      let f = key_freed w.own s r after g w.says in
      gave names (FreeKey d) b 0 (without_number w.own s) r after refl f.gives (freed_agrees names b s d w.own w.is f.was a)

-- ---- lists of calls

runs : (qs : List Request) (names : Names) (b : ByBirth) (s : Holdings) (run : Run) → Agree names b s → IsRun names b s qs run → refused_in run ≡ refusals qs b
runs [] names b s Done a is = refl
runs [] names b s (Call r after rest) a is = absurd is
runs (q ∷ qs) names b s Done a is = absurd is
runs (q ∷ qs) names b s (Call r after rest) a is =
    let st = step names b s after a q r is.0.in_order is.0.answers in
    let ih = runs qs (named q b r names) (said q b (is_refused_full r)) after rest st.agrees is.1 in
    subst (λ t. is_refused_full r ∷ refused_in rest ≡ t ∷ refusals qs (said q b t)) st.same (ap (λ xs. is_refused_full r ∷ xs) ih)

only_heap : (d h : ℕ) → put 0 (Some 0) (λ d. None) d ≡ Some h → d ≡ 0
only_heap d h e = by_zero (nat_eq d 0) refl
  where
    by_zero : (t : Bool) → nat_eq d 0 ≡ t → d ≡ 0
    by_zero true f = grind (arith, nat_tests)
    by_zero false f = absurd (let x : None ≡ Some h = ap (λ t. if t then Some 0 else None) (sym f) ∙ e in cc)

fresh_agrees : (pages : ℕ) → Agree no_names (unborn pages) (fresh pages)
fresh_agrees pages = record {
  fresh = refl;
  given = refl;
  taken = λ d h e. refl;
  left = λ d h e. refl;
  class_pages = λ c. refl;
  slots = λ c. refl;
  apart = λ d e h x y. only_heap d h x ∙ sym (only_heap e h y);
  apart_blocks = λ d e at x y. absurd (cc);
  heap = refl;
  no_heap = refl;
  live = λ d h e. absurd (let z = only_heap (suc d) h e in omega (arith, z));
  blocks = λ d at e. absurd (cc);
  unborn = λ d l. (let z : nat_eq d 0 ≡ false = grind (arith, nat_tests) in rw z refl);
  unborn_blocks = λ d l. refl;
}

pub refused_by_count : RefusedByCount
refused_by_count pages qs run is = runs qs no_names (unborn pages) (fresh pages) run (fresh_agrees pages) is
