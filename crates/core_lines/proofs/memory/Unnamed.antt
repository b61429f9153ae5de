-- A function is entered: its temporary objects get their bytes behind its slots. No instruction is needed.
use Rattle.std.proofs.Common.{◌≡◌, ℕ, zero, suc, ◌+◌, ◌≤◌, true, List, [], ◌∷◌, Some, sym, subst, arith}
use Rattle.rv32_machine.specs.State.{data_base}
use Rattle.core_meaning.specs.Memory.{Content, Own, Born, Memory, is_live}
use Rattle.core_meaning.specs.Meaning.{with_objects}
use Rattle.core_lines.specs.Machines.{Machine}
use Rattle.core_lines.specs.Held.{Source, Register, Number, Compared, ComparedWith, Holding}
use Rattle.core_lines.specs.Lies.{Maps, Extends, Activation}
use Rattle.core_lines.proofs.homes.Homes.{homes_spared}
use Rattle.core_lines.proofs.memory.Relations.{no_zones, World, IsInOrder, Waiting, BlocksLie, back_of}
use Rattle.core_lines.proofs.memory.Extending.{frame_extends, stack_extends}
use Rattle.core_lines.proofs.memory.Laying.{LaidOut}
use Rattle.core_lines.proofs.memory.Owning.{owns}
use Rattle.core_lines.proofs.memory.Alike.{shows_on}
use Rattle.core_lines.proofs.operations.Holding.{verdict, numbered_verdict, IsThere, AreThere}
use Rattle.core_lines.proofs.operations.Standing.{AtHolding, with_there, as_holding}

-- an activation with its temporary objects at these offsets, up to one, and with this memory
abbrev pub owning : Waiting → List ℕ → ℕ → Memory → Waiting
owning x offsets high mem = record x { unnamed = offsets; own_high = high; config = record x.config { memory = mem } }

-- what is known where temporaries' words are stays, where more have addresses
source_extends : (m m' : Maps) (s : Source) (v : Content) (registers : ℕ → ℕ) → Extends m m' → IsThere s v m registers → IsThere s v m' registers
source_extends m m' (Register zero) v registers extends a = tt
source_extends m m' (Register (suc r)) v registers extends a = ((shows_on m m' v (registers (suc r)) extends a.0.0, a.0.1), a.1)
source_extends m m' (Number n) v registers extends a = (shows_on m m' v n extends a.0, a.1)
source_extends m m' (Compared c) v registers extends a = (shows_on m m' v (verdict c registers) extends a.0, a.1, a.2)
source_extends m m' (ComparedWith n) v registers extends a = (shows_on m m' v (numbered_verdict n registers) extends a.0, a.1, a.2)

there_extends : (m m' : Maps) (hs : List Holding) (temps : ℕ → Content) (registers : ℕ → ℕ) → Extends m m' → AreThere hs temps m registers
    → AreThere hs temps m' registers
there_extends m m' [] temps registers extends a = tt
there_extends m m' (h ∷ hs) temps registers extends a = (
  source_extends m m' h.source (temps h.temporary) registers extends a.0,
  there_extends m m' hs temps registers extends a.1,
)

pub owned_at : (w : World) (order : IsInOrder w) (x : Waiting) (outer : List Waiting) (offsets : List ℕ) (high : ℕ) (mem : Memory) (place : ℕ)
    (held : List Holding) (s : Machine) → x.nest ≡ [] → x.config.blocks ≡ [] → LaidOut x.fn.own offsets x.own_high high → high ≤ w.frame_bytes x.function
    → mem.objects (Own x.config.own) ≡ 0 → is_live (mem.standing (Own x.config.own)) ≡ true → AtHolding w x outer mem place held s
    → AtHolding w (owning x offsets high (with_objects (Own x.config.own) x.fn.own mem)) outer (with_objects (Own x.config.own) x.fn.own mem) place held s
owned_at w order x outer offsets high mem place held s nest blocks laid room none live known =
    let k = x.config.own in
    let mem' = with_objects (Own k) x.fn.own mem in
    let a = with_there w x outer mem place held s known in
    let fr = a.frame in
    let fs = a.others in
    let bytes = a.shows.bytes in
    let lie : BlocksLie a.maps fr.at [] [] fr.zones =
    subst (λ ks. BlocksLie a.maps fr.at [] ks fr.zones) blocks (subst (λ ps. BlocksLie a.maps fr.at ps x.config.blocks fr.zones) nest a.shows.blocks) in
    let from : LaidOut x.fn.own offsets fr.own_high high = subst (λ q. LaidOut x.fn.own offsets q high) (sym a.shows.own_high) laid in
    let l = owns w.areas order.statics_within order.stack_within fr fs (no_zones a.maps fr.at fr.zones lie) s.bytes s.store a.sp k high a.shows.own
    (omega (arith, room, bytes)) x.fn.own offsets fr.own_high 0 a.maps mem from none live a.stands.stacked a.stands.fits a.stands.known in
    let after : Activation = record fr { own_high = l.end } in
    let f = frame_extends w a.maps l.maps x (back_of w outer) fr l.extends a.shows in
    as_holding w (owning x offsets high mem') outer mem' place held s (record {
      maps = l.maps;
      frame = after;
      others = fs;
      sp = a.sp;
      stands = record {
        runs = a.stands.runs;
        there = a.stands.there;
        aligned = a.stands.aligned;
        pointer = a.stands.pointer;
        stack_start = a.stands.stack_start;
        small = a.stands.small;
        kept = a.stands.kept;
        stacked = l.stacked;
        fits = l.fits;
        homes = homes_spared a.maps mem l.maps mem' (after ∷ fs) s.registers l.spares a.stands.homes;
        known = l.known;
        holds_blocks = a.stands.holds_blocks;
        data_based = λ o y e. l.extends.base (Born 0) o (data_base + y) (a.stands.data_based o y e);
      };
      shows = record {
        function = f.function;
        bytes = f.bytes;
        size = f.size;
        is = f.is;
        back_place = f.back_place;
        returns_to = f.returns_to;
        temps = f.temps;
        blocks = f.blocks;
        own = f.own;
        own_high = l.ends;
        own_based = λ o y e. let same : 0 + o ≡ o = omega arith in subst (λ q. l.maps.base (Own k) q ≡ Some (fr.at + y)) same (l.based o y e);
        saved = f.saved;
        changed = f.changed;
        homes = f.homes;
      };
      stack = stack_extends w a.maps l.maps outer fs l.extends a.stack;
      holds = there_extends a.maps l.maps held x.config.temps s.registers l.extends a.holds;
    })
