-- A block is granted where the store likes: in a room that nothing live has. What fits still does, with an object more.
use Rattle.std.specs.Prelude.{nat_eq, nat_le, nat_lt, ◌&&◌, if◌then◌else◌}
use Rattle.std.proofs.Common.{◌≡◌, ℕ, ◌+◌, ◌*◌, ◌/◌, ◌%◌, ◌^◌, ◌≤◌, ◌<◌, ◌⊎◌, inl, inr, ⊎_elim, true, List, ◌∷◌, Option, Some, None, refl, sym, ap, subst, ◌∙◌}
use Rattle.std.proofs.Common.{arith}
use Rattle.std.proofs.lemmas.Bool.{eqb-true, leb-true, le-leb, lt-ltb, ne_eqb, eq-eqb, and_parts, and_from, cases_eq, cases_lt}
use Rattle.std.proofs.lemmas.Bool.Decides.{nat_tests}
use Rattle.arena_laws.specs.declared.owner.Owner.{Owner}
use Rattle.arena_laws.specs.declared.owner.Owner.TheVariants as owner
use Rattle.arena_laws.specs.Blocks.{Block}
use Rattle.arena_laws.specs.Counts.{Counts, room_of, class_of}
use Rattle.arena_laws.specs.Holdings.{Holdings, arena_base}
use Rattle.arena_laws.specs.Lawful.{is_clear, is_in_room, is_lawful_room, owns}
use Rattle.arena_laws.proofs.Rooms.{outside}
use Rattle.arena_laws.proofs.Classes.{class_is}
use Rattle.rv32_machine.specs.Arrays.{longest_stack}
use Rattle.rv32_machine.specs.State.{Areas}
use Rattle.core_meaning.specs.Memory.{Region, Frame, Own, Born, Single, Content, Part, Memory, is_live, first_spot, with_object}
use Rattle.core_meaning.specs.Operations.{too_far}
use Rattle.core_lines.specs.Machines.{Store}
use Rattle.core_lines.specs.Lies.{
  Maps,
  Points,
  Activation,
  Name,
  Slot,
  Cell,
  Lies,
  Among,
  birth_in,
  CellGround,
  Ground,
  Fits,
  IsBlock,
  Known,
  IsNamed,
  HoldsBlock,
  HoldsBlocks,
  Stacked,
}
use Rattle.core_lines.proofs.homes.Homes.{Changed}
use Rattle.core_lines.proofs.memory.Sparing.{object_spares}
use Rattle.core_lines.proofs.memory.Fitting.{width_some, inside}
use Rattle.core_lines.proofs.memory.Growing.{placed, placed_extends, ObjectFits, grow_fits, grow_known}

-- ---- rooms

pub room_bound : (n : ℕ) → n ≤ room_of n
room_bound n = ⊎_elim
    (λ (e : n ≡ 0). omega (arith, e))
    (λ (e : n ≡ 0 → ⊥). let r : room_of n ≡ (n + 7) / 8 * 8 = ap (λ c. if c then 8 else (n + 7) / 8 * 8) (ne_eqb n 0 e) in omega (arith, r))
    (cases_eq n 0)

pub room_some : (n : ℕ) → 1 ≤ room_of n
room_some n = ⊎_elim
    (λ (e : n ≡ 0). let r : room_of n ≡ 8 = ap (λ c. if c then 8 else (n + 7) / 8 * 8) (eq-eqb n 0 e) in omega (arith, r))
    (λ (e : n ≡ 0 → ⊥). let bound = room_bound n in let some : 1 ≤ n = omega (arith, e) in omega (arith, bound, some))
    (cases_eq n 0)

-- a class has the bytes asked for, where it is granted
pub class_bound : (n : ℕ) → n ≤ 4096 → n ≤ class_of n
class_bound n few = grind (arith, nat_tests)

pub class_some : (n : ℕ) → 1 ≤ class_of n
class_some n = let is = (class_is n).some in omega (arith, is)

-- a room that may be granted
pub record IsRoom (s : Holdings) (at room : ℕ) : Type 0 where
  pub even : at % 8 ≡ 0
  pub low : arena_base ≤ at
  pub high : at + room ≤ arena_base + s.pages * 4096
  pub clear : (q : ℕ) (who : Owner) → s.owner q ≡ Some who → at ≤ q → q < at + room → ⊥

in_room : (at room q : ℕ) → at ≤ q → q < at + room → is_in_room at room q ≡ true
in_room at room q low high = and_from (nat_le at q) (nat_lt q (at + room)) (le-leb at q low) (lt-ltb q (at + room) high)

pub is_room : (s : Holdings) (at room : ℕ) → is_lawful_room s at room ≡ true → IsRoom s at room
is_room s at room e =
    let p = and_parts (nat_eq (at % 8) 0) (nat_le arena_base at && (nat_le (at + room) (arena_base + s.pages * 4096) && is_clear s.owner at room)) e in
    let q = and_parts (nat_le arena_base at) (nat_le (at + room) (arena_base + s.pages * 4096) && is_clear s.owner at room) p.1 in
    let r = and_parts (nat_le (at + room) (arena_base + s.pages * 4096)) (is_clear s.owner at room) q.1 in
    record {
      even = eqb-true (at % 8) 0 p.0;
      low = leb-true arena_base at q.0;
      high = leb-true (at + room) (arena_base + s.pages * 4096) r.0;
      clear = λ k who is low high. cc (outside s at room k who e is, in_room at room k low high);
    }

-- ---- a grant

module _ (n : Areas) (few : n.statics ≤ 2 ^ 20) (within : n.stack ≤ longest_stack)
    (m : Maps) (fs : List Activation) (mem : Memory) (b : ℕ → ℕ) (st : Store) (sp : ℕ) (stacked : Stacked n sp fs)
    (f : Fits n m fs mem b st) (holds_blocks : HoldsBlocks n st) (d : ℕ) (o : ℕ → ℕ → Option Part) (bytes x : ℕ) (fits : ObjectFits o bytes) (who : Owner)
    (room : ℕ) (bound : bytes ≤ room) (some_room : 1 ≤ room) (lawful : is_lawful_room st.holdings x room ≡ true) (counts : Counts) (births : ℕ) (alone : ℕ → ℕ)
    (k : Known m mem (record st { ledger = record st.ledger { births = births } })) (live : is_live (mem.standing (Born d)) ≡ true)
    (still : (c : Block) → Among c st.ledger.blocks → birth_in (record st.ledger { alone_birth = alone }) c.who ≡ birth_in st.ledger c.who)
    (alone_still : (e at : ℕ) → IsBlock st e at → alone at ≡ st.ledger.alone_birth at)
    (birth : birth_in (record st.ledger { alone_birth = alone }) who ≡ d) (named : IsNamed st x who)
    (single : mem.standing (Born d) ≡ Single → (who ≡ owner.Alone x room) × (alone x ≡ d)) where
  abbrev block : Block
  block = record { from = x; bytes = bytes; room = room; who = who }

  abbrev pub granting : Store
  granting = record {
    holdings = record st.holdings { owner = owns x room who st.holdings.owner; counts = counts };
    ledger = record { births = births; birth_of = st.ledger.birth_of; alone_birth = alone; blocks = block ∷ st.ledger.blocks };
  }

  fresh : m.base (Born d) (mem.objects (Born d)) ≡ None
  fresh = k.unmade (Born d) (mem.objects (Born d)) (omega arith)

  its_room : IsRoom st.holdings x room
  its_room = is_room st.holdings x room lawful

  even : x % 4 ≡ 0
  even = let e = its_room.even in omega (arith, e)

  -- a live block's bytes are elsewhere
  block_away : (c : Block) → Among c st.ledger.blocks → (at width : ℕ) → 1 ≤ width → c.from ≤ at → at + width ≤ c.from + c.bytes
      → (at + width ≤ x) ⊎ (x + bytes ≤ at)
  block_away c among at width some low high =
      let held = holds_blocks.blocks c among in
      let within = held.within in
      ⊎_elim
      (λ (over : x < at + width). ⊎_elim
      (λ (under : at < x + bytes). ⊎_elim
      (λ (later : x < at). absurd (its_room.clear at c.who (held.owned at low (omega (arith, high, within, some))) (omega (arith, later))
      (omega (arith, under, bound))))
      (λ (first : at ≤ x). absurd (its_room.clear x c.who (held.owned x (omega (arith, low, first)) (omega (arith, over, high, within))) (omega arith)
      (omega (arith, some_room))))
      (cases_lt x at))
      (λ (behind : x + bytes ≤ at). inr behind)
      (cases_lt at (x + bytes)))
      (λ (before : at + width ≤ x). inl before)
      (cases_lt x (at + width))

  region_away : (r : Region) (at width : ℕ) → 1 ≤ width → CellGround n fs st r at width → (at + width ≤ x) ⊎ (x + bytes ≤ at)
  region_away (Frame q) at width some g =
      let end = (inside n sp fs g.frame stacked g.inside.among).high in
      let high = g.inside.high in
      let low = its_room.low in
      inl (omega (arith, end, high, low, within))
  region_away (Own q) at width some g =
      let end = (inside n sp fs g.frame stacked g.inside.among).high in
      let high = g.inside.high in
      let low = its_room.low in
      inl (omega (arith, end, high, low, within))
  region_away (Born q) at width some (inl g) = let high = g.high in let low = its_room.low in inl (omega (arith, high, low, few))
  region_away (Born q) at width some (inr g) = block_away g.block g.among at width some g.low g.high

  away : (y : Name) (at width : ℕ) (v : Content) → Lies m fs mem y at width v → (at + width ≤ x) ⊎ (x + bytes ≤ at)
  away y at width v l = by y (width_some width (f.aligned y at width v l).0) (f.ground y at width v l)
    where
      by : (y : Name) → 1 ≤ width → Ground n fs st y at width → (at + width ≤ x) ⊎ (x + bytes ≤ at)
      by (Slot g j) some gr =
          let end = (inside n sp fs gr.frame stacked gr.inside.among).high in
          let high = gr.inside.high in
          let low = its_room.low in
          inl (omega (arith, end, high, low, within))
      by (Cell s j) some gr = region_away s.region at width some gr

  region_on : (r : Region) (at width : ℕ) → CellGround n fs st r at width → CellGround n fs granting r at width
  region_on (Frame q) at width g = g
  region_on (Own q) at width g = g
  region_on (Born q) at width (inl g) = inl g
  region_on (Born q) at width (inr g) = inr (record {
    block = g.block;
    among = inr g.among;
    owner = still g.block g.among ∙ g.owner;
    low = g.low;
    high = g.high;
    bottom = g.bottom;
    top = g.top;
  })

  ground_on : (y : Name) (at width : ℕ) → Ground n fs st y at width → Ground n fs granting y at width
  ground_on (Slot g j) at width gr = gr
  ground_on (Cell s j) at width gr = region_on s.region at width gr

  ground_new : (at width : ℕ) → x ≤ at → at + width ≤ x + bytes → CellGround n fs granting (Born d) at width
  ground_new at width lo hi =
      let low = its_room.low in
      let high = its_room.high in
      let pages = holds_blocks.pages in
      inr (record {
        block = block;
        among = inl refl;
        owner = birth;
        low = lo;
        high = hi;
        bottom = omega (arith, low, lo);
        top = omega (arith, hi, high, bound, pages);
      })

  abbrev pub granted_maps : Maps
  granted_maps = placed (Born d) (mem.objects (Born d)) x m

  granted_fits : Fits n granted_maps fs (with_object mem (Born d) o) b granting
  granted_fits = grow_fits n m fs mem b st granting (Born d) o bytes x f fresh fits even away ground_new ground_on

  its_low : n.pages ≤ 4096 → x < 2 ^ 31
  its_low few_pages = let high = its_room.high in let pages = holds_blocks.pages in omega (arith, high, pages, few_pages)

  its_few : n.pages ≤ 4096 → bytes ≤ too_far
  its_few few_pages =
      let low = its_room.low in
      let high = its_room.high in
      let pages = holds_blocks.pages in
      omega (arith, low, high, pages, bound, few_pages)

  granted_known : n.pages ≤ 4096 → Known granted_maps (with_object mem (Born d) o) granting
  granted_known few_pages =
      grow_known n m fs mem b st granting (Born d) o bytes x f fresh fits even away ground_new ground_on
      (record st { ledger = record st.ledger { births = births } }) (its_low few_pages) (its_few few_pages) live refl refl refl
      (λ e at i. record {
        room = i.room;
        owned = ap (λ t. if t then Some who else st.holdings.owner at) (outside st.holdings x room at (owner.Alone at i.room) lawful i.owned) ∙ i.owned;
        birth = alone_still e at (record { room = i.room; owned = i.owned; birth = i.birth }) ∙ i.birth;
      })
      (λ e same is.
      let here : d ≡ e = born_same same in
      let its = single (ap (λ c. mem.standing (Born c)) here ∙ is) in
      record {
        room = room;
        owned = ap (λ t. if t then Some who else st.holdings.owner x) (in_room x room x (omega arith) (omega (arith, some_room))) ∙ ap (λ w. Some w) its.0;
        birth = its.1 ∙ here;
      })
      k
    where
      born_same : {e : ℕ} → Born d ≡ Born e → d ≡ e
      born_same {e} same = cc same

  -- ---- what the store holds

  held_new : HoldsBlock granting block
  held_new = record {
    within = bound;
    some = some_room;
    owned = λ q low high. ap (λ c. if c then Some who else st.holdings.owner q) (in_room x room q low high);
    named = named_new who named;
  }
    where
      named_new : (w : Owner) → IsNamed st x w → IsNamed granting x w
      named_new (owner.Region r) is = is
      named_new (owner.Alone at _) is = is

  held_old : (c : Block) → HoldsBlock st c → HoldsBlock granting c
  held_old c held = record {
    within = held.within;
    some = held.some;
    owned = λ q low high.
        let its = held.owned q low high in
        ap (λ t. if t then Some who else st.holdings.owner q) (outside st.holdings x room q c.who lawful its) ∙ its;
    named = by c.who held.named;
  }
    where
      by : (who : Owner) → IsNamed st c.from who → IsNamed granting c.from who
      by (owner.Region r) is = is
      by (owner.Alone at _) is = is

  granted_blocks : HoldsBlocks n granting
  granted_blocks = record {
    pages = holds_blocks.pages;
    blocks = λ c among. ⊎_elim (λ (same : c ≡ block). subst (HoldsBlock granting) (sym same) held_new)
        (λ (i : Among c st.ledger.blocks). held_old c (holds_blocks.blocks c i)) among;
  }

  -- all of it
  pub granted : n.pages ≤ 4096 → Changed n m granted_maps fs mem (with_object mem (Born d) o) b granting
  granted few_pages = record {
    spares = object_spares m mem (Born d) o x (placed_extends m (Born d) (mem.objects (Born d)) x fresh);
    fits = granted_fits;
    known = granted_known few_pages;
    blocks = granted_blocks;
  }

  -- a pointer to it is in a register
  pub granted_points : (v : ℕ) → v ≡ x → n.pages ≤ 4096 → Points granted_maps (first_spot mem (Born d)) 0 v × (v < 2 ^ 32)
  granted_points v same few_pages =
      let low = its_room.low in
      let high = its_room.high in
      let pages = holds_blocks.pages in (
        record {
          base = x;
          known = ap (λ c. if c then Some x else m.base (Born d) (mem.objects (Born d)))
              (and_from (nat_eq d d) (nat_eq (mem.objects (Born d)) (mem.objects (Born d))) (eq-eqb d d refl)
              (eq-eqb (mem.objects (Born d)) (mem.objects (Born d)) refl));
          at = omega (arith, same);
          positive = omega (arith, low, same);
        },
        omega (arith, same, high, pages, few_pages),
      )
