-- A run between a reader and a writer of a machine that does what a program does.
use Rattle.std.proofs.Common.{◌≡◌, ℕ, ◌<◌, List, [], ◌∷◌, ◌++◌, Option, Some, None, inl, inr, take, drop, refl, sym, ap, subst, ◌∙◌, append_assoc, append-nil}
use Rattle.std.proofs.Common.{arith, ⊎_elim}
use Rattle.std.proofs.lemmas.List.{take-append-drop}
use Rattle.std.proofs.lemmas.Bool.{cases_lt}
use Rattle.std.specs.Io.KnownBytes.{Appends}
use Rattle.cyc_words.specs.Words.{word}
use Rattle.cyc_words.specs.Events.{AreBytes, Event, SourceEvent, SourceEnding, Request, MachineEnding, output, visible}
use Rattle.cyc_words.proofs.Events.{output_append}
use Rattle.cyc_tree.specs.Tree.{Program}
use Rattle.source_meaning.specs.Programs.{source, world_of}
use Rattle.arena_laws.specs.Counts.{block_limit}
use Rattle.arena_laws.specs.Holdings.{Holdings, fresh}
use Rattle.rv32_machine.specs.Arrays.{Arrays, IsStart, areas_of, state_of, stack_length}
use Rattle.rv32_machine.specs.State.{State, Areas, Stop, Mode, Runs, Over}
use Rattle.rv32_machine.specs.Run.{Run, run_steps, from, exhausted_by, ending_in, ending_of}
use Rattle.rv32_machine.specs.Implements.{Implements, IsBeginning, IsRefused, HasNoFrame, active_after, IsCut, AgreesIn}
use Rattle.arena_laws.specs.Lawful.{Answer}
use Rattle.cyc_host.specs.declared.ending.Ending.{Ending}
use Rattle.cyc_host.specs.declared.ending.Ending.TheVariants as ending
use Rattle.cyc_host.specs.Hosted.{Written, EndsAs, IsHosted}
use Rattle.cyc_host.specs.Watched.{IsWatched, Known, Tally}
use Rattle.compile_proof.specs.Promise.{meaning_of, frame_bound_of, frame_size_of}
use Rattle.stack_proof.specs.Laws.{FitsStack, HasPages}
use Rattle.stack_proof.proofs.Suffices.{never_out_of_stack, room_is_pages}
use Rattle.cycc_driver.specs.Outcome.{WantsRoom, WritesBeginning, WritesAll, WritesToRequest, EndsAsProgram, IsTextImage, IsTextRun}
use Rattle.exhaustion_proof.specs.Room.{is_refused_after}
use Rattle.exhaustion_proof.specs.Laws.{NeverExhausted, ExhaustedAt}
use Rattle.exhaustion_proof.proofs.Exhausted.{exhaustion_is_exact}
use Rattle.cycc_driver.proofs.Longer.{same_state, same_events, same_exact}
use Rattle.cycc_driver.proofs.EnoughSteps.{ends_with_enough}
use Rattle.cycc_driver.proofs.Exhaustions.{bytes_and, meaning_grows, room_as, ends_at, stopped_before}
use Rattle.core_lines.proofs.memory.Whole.{cut_begins}

-- ---- output

module _ (bound : List ℕ → ℕ) (n : Areas) where
  -- what a run has shown is the beginning of what is meant
  shown_begins : (end : MachineEnding) (shown : List Event) (meant : List SourceEvent) (e : SourceEnding) → AgreesIn bound n end shown meant e
      → IsBeginning shown (visible meant)
  shown_begins MachineEnding.Running shown meant e agrees = agrees
  shown_begins MachineEnding.Lacking shown meant e agrees = agrees
  shown_begins (MachineEnding.Ended status) shown meant e agrees = ([], agrees.1 ∙ sym (append-nil shown))
  shown_begins (MachineEnding.Raised kind) shown meant e agrees = ([], agrees.1 ∙ sym (append-nil shown))
  shown_begins (MachineEnding.Refused q) shown meant e agrees = cut_begins shown meant (λ before next. IsRefused q next) agrees
  shown_begins MachineEnding.NoStack shown meant e agrees =
      cut_begins shown meant (λ before next. HasNoFrame bound n.stack (active_after [] before) next) agrees
  shown_begins (MachineEnding.Fault fault) shown meant e agrees = absurd agrees

-- ---- endings

module _ (n : Areas) (program : Program) (input : List ℕ) (r : Run) (fuel : ℕ) (old new : Option (List ℕ)) where
  abbrev bound : List ℕ → ℕ
  bound = frame_bound_of (world_of program)

  abbrev meant : List SourceEvent
  meant = (source program input fuel).events

  -- the run agrees with the program at so much fuel
  abbrev AgreesAs : MachineEnding → Type 0
  AgreesAs end = AgreesIn bound n end r.events meant (source program input fuel).ending

  -- in the way that the machine is over
  over : (stop : Stop) → r.state.mode ≡ Over stop → AgreesAs (ending_of r) → AgreesAs (ending_in (Over stop) r.refused)
  over stop is agrees = subst (λ (m : Mode). AgreesAs (ending_in m r.refused)) is agrees

  all : (e : SourceEnding) → ((source program input fuel).ending ≡ e) → visible meant ≡ r.events → Appends old new (output r.events)
      → WritesAll program input e old new
  all e ends same written = record { fuel = fuel; ends = ends; written = subst (λ es. Appends old new (output es)) (sym same) written }

  -- the first bytes of what the run has shown
  some : (bytes others : List ℕ) → AgreesAs (ending_of r) → output r.events ≡ bytes ++ others → Appends old new bytes → WritesBeginning program input old new
  some bytes others agrees parts written =
      let begins = shown_begins bound n (ending_of r) r.events meant (source program input fuel).ending agrees in
      record {
        fuel = fuel;
        bytes = bytes;
        others = others ++ output begins.0;
        begins = ap output begins.1 ∙ output_append r.events begins.0 ∙ ap (λ l. l ++ output begins.0) parts ∙ append_assoc bytes others (output begins.0);
        written = written;
      }

  whole : AgreesAs (ending_of r) → Appends old new (output r.events) → WritesBeginning program input old new
  whole agrees written = some (output r.events) [] agrees (sym (append-nil (output r.events))) written

  -- where the machine is exhausted, the store refused a request, or the stack had no room for a frame
  wants_room : (refused : Option Request) → AgreesAs (exhausted_by refused) → IsCut r.events meant (WantsRoom program n)
  wants_room (Some q) a = record { before = a.before; next = a.next; rest = a.rest; split = a.split; same = a.same; because = inl (q, a.because) }
  wants_room None a = record { before = a.before; next = a.next; rest = a.rest; split = a.split; same = a.same; because = inr a.because }

  pub ends : (why : Ending) (limit count : ℕ) (now : State) → AgreesAs (ending_of r) → EndsAs why n limit count r now → Written why old new (output r.events)
      → EndsAsProgram why n program input old new
  ends (ending.Ended status) limit count now agrees at written =
      let a = over (Stop.Ended (word status)) at.1 agrees in all (SourceEnding.Ended (word status)) a.0 a.1 written
  ends (ending.Raised kind) limit count now agrees at written =
      let a = over (Stop.Raised kind) at.1 agrees in all (SourceEnding.Raised kind) a.0 a.1 written
  ends ending.Exhausted limit count now agrees at written =
      record { fuel = fuel; shown = r.events; cut = wants_room r.refused (over Stop.Exhausted at.1 agrees); written = written }
  ends ending.HostMemory limit count now agrees at written = whole agrees written
  ends (ending.Fault fault) limit count now agrees at written = over (Stop.Fault fault) at.1 agrees
  ends ending.StepLimit limit count now agrees at written = whole agrees written
  ends ending.ReadFault limit count now agrees at written = whole agrees written
  ends ending.WriteFault limit count now agrees at written =
      some (take written.0 (output r.events)) (drop written.0 (output r.events)) agrees (sym (take-append-drop written.0 (output r.events))) written.1

-- ---- with the stack that the calls need

module _ (n : Areas) (program : Program) (s : State) (input : List ℕ) (answers : ℕ
    → Answer) (count : ℕ) (fits : FitsStack (frame_size_of (world_of program)) program n.stack)
    (does : Implements (frame_size_of (world_of program)) n s input (meaning_of program input)) where
  abbrev ran : Run
  ran = run_steps n count (from s input answers)

  requested_by : (refused : Option Request) → ran.refused ≡ refused → ran.state.mode ≡ Over Stop.Exhausted → (old new : Option (List ℕ))
      → Appends old new (output ran.events) → WritesToRequest program input old new
  requested_by (Some q) is over old new written =
      let at = does.each_run answers count in
      let meant = source program input at.0 in
      let agrees : AgreesIn (frame_size_of (world_of program)) n (exhausted_by (Some q)) ran.events meant.events meant.ending =
      subst (λ (o : Option Request). AgreesIn (frame_size_of (world_of program)) n (exhausted_by o) ran.events meant.events meant.ending) is
      (subst (λ (m : Mode). AgreesIn (frame_size_of (world_of program)) n (ending_in m ran.refused) ran.events meant.events meant.ending) over at.1) in
      record {
        fuel = at.0;
        shown = ran.events;
        cut = record {
          before = agrees.before;
          next = agrees.next;
          rest = agrees.rest;
          split = agrees.split;
          same = agrees.same;
          because = (q, agrees.because);
        };
        written = written;
      }
  requested_by None is over old new written =
      let none : ending_of ran ≡ MachineEnding.NoStack = ap (λ (m : Mode). ending_in m ran.refused) over ∙ ap exhausted_by is in
      absurd (never_out_of_stack (frame_size_of (world_of program)) program n s input fits does answers count none)

  pub requested : ran.state.mode ≡ Over Stop.Exhausted → (old new : Option (List ℕ)) → Appends old new (output ran.events)
      → WritesToRequest program input old new
  requested = requested_by ran.refused refl

-- pages are as many
has_pages : (pages n : ℕ) (events : List SourceEvent) → n ≡ pages → HasPages pages events → HasPages n events
has_pages pages n events same all = subst (λ k. HasPages k events) (sym same) all

-- ---- the whole

-- a run that was stopped at the step limit runs on: it did so many steps, or it is at its start
runs_on : (n : Areas) (r : Run) (steps count : ℕ) (end : State) → r.state.mode ≡ Runs → EndsAs ending.StepLimit n steps count (run_steps n count r) end
    → (run_steps n count r).state.mode ≡ Runs
runs_on n r steps count end starts at =
    ⊎_elim (λ some. at.2 some)
    (λ none. let zero_steps : count ≡ 0 = omega (arith, none, at.1) in ap (λ k. (run_steps n k r).state.mode) zero_steps ∙ starts)
    (cases_lt 0 steps)

-- a run of the image of a text, from its start on, over a store whose bytes are 0
pub text_run : (text bytes : List ℕ) (pages stack_pages steps : ℕ) (why : Ending) (made : IsTextImage text pages stack_pages bytes) (arena : ℕ → ℕ)
    (start : Arrays) → ((at : ℕ) → arena at ≡ 0) → IsStart made.parts (fresh pages) arena start → (end : State)
    → {reader_old reader_new writer_old writer_new : Option (List ℕ)}
    → IsHosted why (areas_of start) steps (state_of start) end reader_old reader_new writer_old writer_new
    → IsTextRun text pages stack_pages steps why reader_old reader_new writer_old writer_new
text_run text bytes pages stack_pages steps why made arena start blank starts end {reader_old} {reader_new} {writer_old} {writer_new} hosted =
    let n = areas_of start in
    let s = state_of start in
    let h = hosted in
    let r = from s h.input h.answers in
    let with_its : IsStart made.parts (fresh made.parts.pages) arena start =
    subst (λ (k : ℕ). IsStart made.parts (fresh k) arena start) (sym made.as_asked) starts in
    let small : (at : ℕ) → arena at < 256 = λ at. let zero = blank at in omega (arith, zero) in
    let does = made.implemented arena start small with_its h.input h.bytes in
    let agrees = does.each_run h.answers h.count in
    let at_limit : why ≡ ending.StepLimit → EndsAs ending.StepLimit n steps h.count (run_steps n h.count r) end =
    λ same. subst (λ (w : Ending). EndsAs w n steps h.count (run_steps n h.count r) end) same h.ends in
    let stays : why ≡ ending.StepLimit → (run_steps n h.count r).state.mode ≡ Runs = λ same. runs_on n r steps h.count end starts.runs (at_limit same) in
    let bound = frame_bound_of (world_of made.program) in
    let page_count : n.pages ≡ pages = ap (λ (k : Holdings). k.pages) starts.held in
    let stack_count : n.stack ≡ stack_length stack_pages = starts.stack ∙ ap stack_length made.stack_as_asked in
    let is_fresh : s.holdings ≡ fresh n.pages = starts.held ∙ ap fresh (sym page_count) in
    let limit_is : n.block_limit ≡ block_limit = starts.block_limit ∙ made.blocks in
    let exact : (more : List ℕ) → AreBytes more → NeverExhausted bound n s (h.input ++ more) (meaning_of made.program (h.input ++ more))
    × ExhaustedAt bound n s (h.input ++ more) (meaning_of made.program (h.input ++ more)) = λ more bytes.
    exhaustion_is_exact bound n s (h.input ++ more) (meaning_of made.program (h.input ++ more)) is_fresh limit_is (meaning_grows made.program (h.input ++ more))
    (made.implemented arena start small with_its (h.input ++ more) (bytes_and h.input more h.bytes bytes)) in
    record {
      bytes = bytes;
      image = made;
      arena = arena;
      blank = blank;
      start = start;
      starts = starts;
      end = end;
      hosted = hosted;
      goes_on = λ same. ap (λ (x : State). x.mode) (at_limit same).0 ∙ stays same;
      ends = ends n made.program h.input (run_steps n h.count r) agrees.0 writer_old writer_new why steps h.count end agrees.1 h.ends h.written;
      limit = λ more none fuel count over reached within.
          let longer = from s (h.input ++ more) h.answers in
          let same = same_state n h.count s h.input h.answers more none in
          ends_with_enough n longer made.program (h.input ++ more) fuel count writer_old writer_new over (reached h.answers) why h.count
          (λ stop is. ap (λ (x : State). x.mode) same ∙ ends_at n why steps h.count (run_steps n h.count r) end h.ends stop is)
          (λ is_limit. (omega (arith, within, (at_limit is_limit).1), ap (λ (x : State). x.mode) same ∙ stays is_limit))
          (subst (λ (es : List Event). Written why writer_old writer_new (output es)) (sym (same_events n h.count s h.input h.answers more none)) h.written);
      roomy = λ more bytes none room is_exhausted.
          let longer = from s (h.input ++ more) h.answers in
          let law = exact more bytes in
          let at : EndsAs ending.Exhausted n steps h.count (run_steps n h.count r) end =
          subst (λ (w : Ending). EndsAs w n steps h.count (run_steps n h.count r) end) is_exhausted h.ends in
          law.0
          (λ fuel. room_as bound pages (stack_length stack_pages) n.pages n.stack (source made.program (h.input ++ more) fuel).events page_count stack_count
          (room fuel))
          h.answers h.count (same_exact n h.count s h.input h.answers more none h.exact)
          (ap (λ (x : State). x.mode) (same_state n h.count s h.input h.answers more none) ∙ at.1);
      requested = λ fits is_exhausted.
          let near = made.closely arena start small with_its h.input h.bytes in
          let has : FitsStack (frame_size_of (world_of made.program)) made.program n.stack =
          subst (λ k. FitsStack (frame_size_of (world_of made.program)) made.program k) (sym stack_count) fits in
          let at : EndsAs ending.Exhausted n steps h.count (run_steps n h.count r) end =
          subst (λ (w : Ending). EndsAs w n steps h.count (run_steps n h.count r) end) is_exhausted h.ends in
          requested n made.program s h.input h.answers h.count has near at.1 writer_old writer_new
          (subst (λ (w : Ending). Written w writer_old writer_new (output (run_steps n h.count r).events)) is_exhausted h.written);
      paged = λ fits more bytes none pages_are is_exhausted.
          let size = frame_size_of (world_of made.program) in
          let has : FitsStack size made.program n.stack = subst (λ k. FitsStack size made.program k) (sym stack_count) fits in
          let law = exhaustion_is_exact size n s (h.input ++ more) (meaning_of made.program (h.input ++ more)) is_fresh limit_is
          (meaning_grows made.program (h.input ++ more)) (made.closely arena start small with_its (h.input ++ more) (bytes_and h.input more h.bytes bytes)) in
          let at : EndsAs ending.Exhausted n steps h.count (run_steps n h.count r) end =
          subst (λ (w : Ending). EndsAs w n steps h.count (run_steps n h.count r) end) is_exhausted h.ends in
          law.0
          (λ fuel. room_is_pages size made.program n.pages n.stack (h.input ++ more) fuel has
          (has_pages pages n.pages (source made.program (h.input ++ more) fuel).events page_count (pages_are fuel)))
          h.answers h.count (same_exact n h.count s h.input h.answers more none h.exact)
          (ap (λ (x : State). x.mode) (same_state n h.count s h.input h.answers more none) ∙ at.1);
      short = λ more bytes none fuel before e rest split room refused enough reached within.
          let longer = from s (h.input ++ more) h.answers in
          let law = exact more bytes in
          let same = same_state n h.count s h.input h.answers more none in
          stopped_before n steps enough longer before writer_old writer_new within
          (λ count less exactly. law.1 fuel before e rest split
          (room_as bound pages (stack_length stack_pages) n.pages n.stack before page_count stack_count room)
          (ap (λ k. is_refused_after k (visible before) e) page_count ∙ refused) enough reached h.answers count less exactly)
          why h.count (same_exact n h.count s h.input h.answers more none h.exact)
          (λ stop is. ap (λ (x : State). x.mode) same ∙ ends_at n why steps h.count (run_steps n h.count r) end h.ends stop is)
          (λ is_limit. ((at_limit is_limit).1, ap (λ (x : State). x.mode) same ∙ stays is_limit))
          (subst (λ (es : List Event). Written why writer_old writer_new (output es)) (sym (same_events n h.count s h.input h.answers more none)) h.written);
    }

-- a watched run whose tally began alike, with as much known of the active calls
pub begun_alike : {why : Ending} {n : Areas} {limit : ℕ} {old new : State} {reader_old reader_new writer_old writer_new : Option (List ℕ)}
    {one other after : Tally}
    {known_one known_other known : Known} → one ≡ other → known_one ≡ known_other
    → IsWatched why n limit old new reader_old reader_new writer_old writer_new one after known_one known
    → IsWatched why n limit old new reader_old reader_new writer_old writer_new other after known_other known
begun_alike {why} {n} {limit} {old} {new} {reader_old} {reader_new} {writer_old} {writer_new} {one} {other} {after} {known_one} {known_other} {known} same
    as_known w =
    subst (λ (k : Known). IsWatched why n limit old new reader_old reader_new writer_old writer_new other after k known) as_known
    (subst (λ (t : Tally). IsWatched why n limit old new reader_old reader_new writer_old writer_new t after known_one known) same w)
