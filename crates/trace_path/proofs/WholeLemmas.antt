-- The walks of all threads, the fault, and the one walk of a log.
use Rattle.std.specs.Prelude.{◌≡◌, ℕ, zero, suc, ◌+◌, ◌*◌, ◌^◌, ◌<◌, ◌≤◌, Bool, true, false, not, ◌&&◌, cond, List, [], ◌∷◌, ◌++◌, length, slice_get, Option, Some, None, option_map, All}
use Rattle.std.specs.Result.{result_ok}
use Rattle.std.proofs.Common.{refl, sym, ◌∙◌, ap, subst, arith, get_or, below_more}
use Rattle.std.proofs.lemmas.Bool.{and_parts, and_from, not-true}
use Rattle.std.proofs.lemmas.List.{length_push, get_or_append_left, get_or_at, get_or_default, ext_get_or}
use Rattle.std.proofs.lemmas.Option.{slice_get_within, slice_get-get_or, get_or_from_slice_get}
use Rattle.elf_image.specs.Layout.{Layout}
use Rattle.odr_log.specs.declared.log.Cause.{Cause}
use Rattle.odr_log.specs.declared.log.End.{End}
use Rattle.odr_log.specs.declared.log.End.TheVariants as end
use Rattle.odr_log.specs.declared.log.CallRec.{CallRec}
use Rattle.odr_log.specs.declared.log.Log.{Log}
use Rattle.rv_model.specs.declared.state.Note.{Note}
use Rattle.rv_model.specs.declared.walk.Place.{Place}
use Rattle.rv_model.specs.declared.walk.FaultPlace.{FaultPlace}
use Rattle.rv_model.specs.Step.{instr_at}
use Rattle.rv_model.specs.Walk.{Walk, places_of, notes_of, is_last, may_fault, FaultsAt, FaultFits, IsWalk}
use Rattle.rv_model.specs.Accesses.{accesses_by}
use Rattle.trace_path.specs.declared.thread.Stop.{Stop}
use Rattle.trace_path.specs.declared.thread.Followed.{Followed}
use Rattle.trace_path.specs.declared.threads.Gathered.{Gathered}
use Rattle.trace_path.specs.Faults.{faults_at, faults_by, fault_of}
use Rattle.trace_path.specs.Followed.{StopsAt, IsFollowed, IsGathered, no_stop}
use Rattle.trace_path.specs.Traced.{IsTraced}
use Rattle.trace_path.proofs.StepLemmas.{some_same}
use Rattle.trace_path.proofs.AccessLemmas.{threads_more}
use Rattle.trace_path.proofs.ThreadLemmas.{SameWalks, thread_one}

-- one thread more

stops_by : (image : Layout) (log : Log) (thread : ℕ) (ps qs : List Place) (ns ms : List Note) (s u : Stop) → ps ≡ qs → ns ≡ ms → s ≡ u
    → StopsAt image log thread ps ns s → StopsAt image log thread qs ms u
stops_by image log thread ps qs ns ms s u places notes stop stops =
    subst (λ (x : Stop). StopsAt image log thread qs ms x) stop
    (subst (λ (x : List Note). StopsAt image log thread qs x s) notes
    (subst (λ (x : List Place). StopsAt image log thread x ns s) places stops))

pub gathered_more : (image : Layout) (log : Log) (count : ℕ) (g : Gathered) (f : Followed) → IsGathered image log count g → IsFollowed image log count f
    → IsGathered image log (count + 1) (record { places = g.places ++ f.places ∷ []; stops = g.stops ++ f.stop ∷ []; accesses = g.accesses + f.accesses })
gathered_more image log count g f all one =
    let before : (thread : ℕ) → thread < count
    → StopsAt image log thread (get_or (g.places ++ f.places ∷ []) thread []) (get_or (all.notes ++ one.notes ∷ []) thread []) (get_or (g.stops ++ f.stop ∷ []) thread no_stop) =
    λ (thread : ℕ) (w : thread < count).
    let places : length g.places ≡ count = all.places_count in
    let notes : length all.notes ≡ count = all.notes_count in
    let stops : length g.stops ≡ count = all.stops_count in
    stops_by image log thread (get_or g.places thread []) (get_or (g.places ++ f.places ∷ []) thread [])
    (get_or all.notes thread []) (get_or (all.notes ++ one.notes ∷ []) thread [])
    (get_or g.stops thread no_stop) (get_or (g.stops ++ f.stop ∷ []) thread no_stop)
    (sym (get_or_append_left g.places (f.places ∷ []) [] thread (omega arith)))
    (sym (get_or_append_left all.notes (one.notes ∷ []) [] thread (omega arith)))
    (sym (get_or_append_left g.stops (f.stop ∷ []) no_stop thread (omega arith)))
    (all.each thread w) in
    let here : StopsAt image log count (get_or (g.places ++ f.places ∷ []) count []) (get_or (all.notes ++ one.notes ∷ []) count []) (get_or (g.stops ++ f.stop ∷ []) count no_stop) =
    stops_by image log count f.places (get_or (g.places ++ f.places ∷ []) count []) one.notes (get_or (all.notes ++ one.notes ∷ []) count [])
    f.stop (get_or (g.stops ++ f.stop ∷ []) count no_stop)
    (sym (get_or_at g.places f.places [] [] count all.places_count))
    (sym (get_or_at all.notes one.notes [] [] count all.notes_count))
    (sym (get_or_at g.stops f.stop [] no_stop count all.stops_count))
    one.stops in
    record {
      notes = all.notes ++ one.notes ∷ [];
      places_count = length_push g.places f.places ∙ ap (λ (n : ℕ). n + 1) all.places_count;
      notes_count = length_push all.notes one.notes ∙ ap (λ (n : ℕ). n + 1) all.notes_count;
      stops_count = length_push g.stops f.stop ∙ ap (λ (n : ℕ). n + 1) all.stops_count;
      each =
          below_more
          (λ (thread : ℕ). StopsAt image log thread (get_or (g.places ++ f.places ∷ []) thread []) (get_or (all.notes ++ one.notes ∷ []) thread []) (get_or (g.stops ++ f.stop ∷ []) thread no_stop))
          count before here;
      counted =
          ap (λ (n : ℕ). n + f.accesses) all.counted
          ∙ ap (λ (n : ℕ). length (accesses_by 0 g.places all.notes) + n) one.counted
          ∙ sym (threads_more 0 count g.places all.notes f.places one.notes (all.places_count ∙ sym all.notes_count));
      few = let few : g.accesses ≤ count * 2 ^ 32 = all.few in let last : f.accesses < 2 ^ 32 = one.few in omega arith;
      number = let number : count < 2 ^ 8 = one.number in omega arith;
    }

-- the fault

abbrev at_stop : Layout → Stop → FaultPlace
at_stop image stop = record { pc = stop.pc; instr = result_ok (instr_at image stop.pc) }

faults_case : (b : Bool) (o : FaultPlace) (fault : Option FaultPlace) → option_map (λ (at : FaultPlace). Some at) (cond b (Some o) None) ≡ Some fault → (b ≡ true) × (Some o ≡ fault)
faults_case true o fault e = (refl, some_same (Some o) fault e)
faults_case false o fault e = absurd (let f : None ≡ Some fault = e in cc)

fault_by : (image : Layout) (log : Log) (thread : ℕ) (cause : Cause) (places : List Place) (notes : List Note) (stop : Stop) (fault : Option FaultPlace)
    → StopsAt image log thread places notes stop
    → option_map (λ (at : FaultPlace). Some at) (faults_at image stop cause) ≡ Some fault
    → (Some (at_stop image stop) ≡ fault) × FaultsAt image log thread cause places notes (at_stop image stop)
fault_by image log thread cause places notes stop fault stops e =
    let found = faults_case (not stop.over && may_fault cause stop.pc (instr_at image stop.pc)) (at_stop image stop) fault e in
    let both = and_parts (not stop.over) (may_fault cause stop.pc (instr_at image stop.pc)) found.0 in (
      found.1,
      record { walk = stops.walk; live = stops.live.0 (not-true stop.over both.0); pc = stops.pc; fits = both.1; instr = refl },
    )

fault_from : (image : Layout) (log : Log) (walk : Walk) (stops : List Stop) (thread : ℕ) (cause : Cause) (o : Option Stop) (fault : Option FaultPlace)
    → length stops ≡ length log.threads
    → ((t : ℕ) → t < length log.threads → StopsAt image log t (places_of walk t) (notes_of walk t) (get_or stops t no_stop))
    → slice_get stops thread ≡ o → option_map (λ (at : FaultPlace). Some at) (faults_by image o cause) ≡ Some fault
    → FaultFits image log walk (end.Faulted thread cause) fault
fault_from image log walk stops thread cause None fault count each got e = absurd (let f : None ≡ Some fault = e in cc)
fault_from image log walk stops thread cause (Some stop) fault count each got e =
    let within : thread < length stops = slice_get_within stops thread stop got in
    let inside : thread < length log.threads = omega arith in
    let stops_at : StopsAt image log thread (places_of walk thread) (notes_of walk thread) stop =
    subst (λ (s : Stop). StopsAt image log thread (places_of walk thread) (notes_of walk thread) s) (get_or_from_slice_get stops thread stop no_stop got) (each thread inside) in
    let found = fault_by image log thread cause (places_of walk thread) (notes_of walk thread) stop fault stops_at e in
    subst (FaultFits image log walk (end.Faulted thread cause)) found.0 (inside, found.1)

fault_ends : (image : Layout) (log : Log) (walk : Walk) (stops : List Stop) (ended : End) (fault : Option FaultPlace)
    → length stops ≡ length log.threads
    → ((t : ℕ) → t < length log.threads → StopsAt image log t (places_of walk t) (notes_of walk t) (get_or stops t no_stop))
    → fault_of image stops ended ≡ Some fault → FaultFits image log walk ended fault
fault_ends image log walk stops (end.Faulted thread cause) fault count each e = fault_from image log walk stops thread cause (slice_get stops thread) fault count each refl e
fault_ends image log walk stops (end.Exited thread code) fault count each e = sym (some_same None fault e)
fault_ends image log walk stops end.AllDone fault count each e = sym (some_same None fault e)
fault_ends image log walk stops end.Cut fault count each e = sym (some_same None fault e)

pub gathered_traced : (image : Layout) (log : Log) (g : Gathered) (fault : Option FaultPlace) → IsGathered image log (length log.threads) g
    → All (λ (r : CallRec). r.tid < length log.threads) log.calls → fault_of image g.stops log.end ≡ Some fault
    → IsTraced image log (record { places = g.places; fault = fault; accesses = g.accesses })
gathered_traced image log g fault all callers e =
    let walk : Walk = record { places = g.places; notes = all.notes; fault = fault } in
    record {
      notes = all.notes;
      walk = record {
        places = all.places_count;
        notes = all.notes_count;
        each = λ (thread : ℕ) (w : thread < length log.threads). (all.each thread w).walk;
        callers = callers;
        fault = fault_ends image log walk g.stops log.end fault all.stops_count all.each e;
      };
      count = all.counted;
    }

-- Where a fault fits, the thread's stop gives it.
fault_given : (image : Layout) (log : Log) (thread : ℕ) (cause : Cause) (places others : List Place) (notes shown : List Note) (stop : Stop) (at : FaultPlace)
    → StopsAt image log thread places notes stop → FaultsAt image log thread cause others shown at
    → faults_at image stop cause ≡ Some (at_stop image stop)
fault_given image log thread cause places others notes shown stop at stops faults =
    let same : SameWalks others places shown notes faults.walk.after stops.walk.after = thread_one image log thread others places shown notes faults.walk stops.walk in
    let pc : at.pc ≡ stop.pc = faults.pc ∙ same.stops_same ∙ sym stops.pc in
    let live : stop.over ≡ false = stops.live.1 (subst (All (λ (x : Note). is_last x ≡ false)) same.notes_same faults.live) in
    let fits : may_fault cause stop.pc (instr_at image stop.pc) ≡ true =
    subst (λ (p : ℕ). may_fault cause p (instr_at image p) ≡ true) pc faults.fits in
    ap (λ (b : Bool). cond b (Some (at_stop image stop)) None)
    (and_from (not stop.over) (may_fault cause stop.pc (instr_at image stop.pc)) (ap not live) fits)

fault_there : (image : Layout) (log : Log) (walk : Walk) (g : Gathered) (thread : ℕ) (cause : Cause) (fault : Option FaultPlace)
    → IsGathered image log (length log.threads) g → FaultFits image log walk (end.Faulted thread cause) fault
    → fault_of image g.stops (end.Faulted thread cause) ≡ None → ⊥
fault_there image log walk g thread cause None all fits e = absurd fits
fault_there image log walk g thread cause (Some at) all fits e =
    let count : length g.stops ≡ length log.threads = all.stops_count in
    let inside : thread < length log.threads = fits.0 in
    let stop : Stop = get_or g.stops thread no_stop in
    let got : slice_get g.stops thread ≡ Some stop = slice_get-get_or g.stops thread no_stop (omega arith) in
    let given : faults_at image stop cause ≡ Some (at_stop image stop) =
    fault_given image log thread cause (get_or g.places thread []) (places_of walk thread) (get_or all.notes thread []) (notes_of walk thread) stop at (all.each thread inside) fits.1 in
    let found : fault_of image g.stops (end.Faulted thread cause) ≡ Some (Some (at_stop image stop)) =
    ap (λ (o : Option Stop). option_map (λ (x : FaultPlace). Some x) (faults_by image o cause)) got
    ∙ ap (option_map (λ (x : FaultPlace). Some x)) given in
    let f : None ≡ Some (Some (at_stop image stop)) = sym e ∙ found in cc

fault_by_end : (image : Layout) (log : Log) (walk : Walk) (g : Gathered) (ended : End) (fault : Option FaultPlace)
    → IsGathered image log (length log.threads) g → FaultFits image log walk ended fault → fault_of image g.stops ended ≡ None → ⊥
fault_by_end image log walk g (end.Faulted thread cause) fault all fits e = fault_there image log walk g thread cause fault all fits e
fault_by_end image log walk g (end.Exited thread code) fault all fits e = let none : Option FaultPlace = None in let f : Some none ≡ None = e in cc
fault_by_end image log walk g end.AllDone fault all fits e = let none : Option FaultPlace = None in let f : Some none ≡ None = e in cc
fault_by_end image log walk g end.Cut fault all fits e = let none : Option FaultPlace = None in let f : Some none ≡ None = e in cc

pub fault_none : (image : Layout) (log : Log) (g : Gathered) (walk : Walk) → IsGathered image log (length log.threads) g → fault_of image g.stops log.end ≡ None
    → IsWalk image log walk → ⊥
fault_none image log g walk all e is = fault_by_end image log walk g log.end walk.fault all is.fault e

-- one walk

place_one : (image : Layout) (log : Log) (thread : ℕ) (cause : Cause) (places others : List Place) (notes shown : List Note) (x y : FaultPlace)
    → FaultsAt image log thread cause places notes x → FaultsAt image log thread cause others shown y → x ≡ y
place_one image log thread cause places others notes shown x y a b =
    let same : SameWalks places others notes shown a.walk.after b.walk.after = thread_one image log thread places others notes shown a.walk b.walk in
    let pc : x.pc ≡ y.pc = a.pc ∙ same.stops_same ∙ sym b.pc in
    let instr : x.instr ≡ y.instr = a.instr ∙ ap (λ (p : ℕ). result_ok (instr_at image p)) pc ∙ sym b.instr in
    ap (λ (p : ℕ). let f : FaultPlace = record { pc = p; instr = x.instr } in f) pc ∙ ap (λ (i : _). let f : FaultPlace = record { pc = y.pc; instr = i } in f) instr

fault_one : (image : Layout) (log : Log) (walk other : Walk) (ended : End) (x y : Option FaultPlace) → FaultFits image log walk ended x → FaultFits image log other ended y → x ≡ y
fault_one image log walk other (end.Faulted thread cause) (Some x) (Some y) a b =
    ap (λ (f : FaultPlace). Some f)
    (place_one image log thread cause (places_of walk thread) (places_of other thread) (notes_of walk thread) (notes_of other thread) x y a.1 b.1)
fault_one image log walk other (end.Faulted thread cause) None y a b = absurd a
fault_one image log walk other (end.Faulted thread cause) (Some x) None a b = absurd b
fault_one image log walk other (end.Exited thread code) x y a b = a ∙ sym b
fault_one image log walk other end.AllDone x y a b = a ∙ sym b
fault_one image log walk other end.Cut x y a b = a ∙ sym b

pub walks_one : (image : Layout) (log : Log) (walk other : Walk) → IsWalk image log walk → IsWalk image log other → walk ≡ other
walks_one image log walk other a b =
    let count : length walk.places ≡ length log.threads = a.places in
    let notes_count : length walk.notes ≡ length log.threads = a.notes in
    let same : (t : ℕ) → (w : t < length log.threads) → SameWalks (places_of walk t) (places_of other t) (notes_of walk t) (notes_of other t) (a.each t w).after (b.each t w).after =
    λ (t : ℕ) (w : t < length log.threads). thread_one image log t (places_of walk t) (places_of other t) (notes_of walk t) (notes_of other t) (a.each t w) (b.each t w) in
    let places : walk.places ≡ other.places =
    ext_get_or [] walk.places other.places (a.places ∙ sym b.places) (λ (t : ℕ) (w : t < length walk.places). (same t (omega arith)).places_same) in
    let notes : walk.notes ≡ other.notes =
    ext_get_or [] walk.notes other.notes (a.notes ∙ sym b.notes) (λ (t : ℕ) (w : t < length walk.notes). (same t (omega arith)).notes_same) in
    let fault : walk.fault ≡ other.fault = fault_one image log walk other log.end walk.fault other.fault a.fault b.fault in
    ap (λ (p : List (List Place)). let v : Walk = record { places = p; notes = walk.notes; fault = walk.fault } in v) places
    ∙ ap (λ (n : List (List Note)). let v : Walk = record { places = other.places; notes = n; fault = walk.fault } in v) notes
    ∙ ap (λ (f : Option FaultPlace). let v : Walk = record { places = other.places; notes = other.notes; fault = f } in v) fault

-- reading a place

in_row : (places : List (List Place)) (thread step : ℕ) → step < length (get_or places thread []) → thread < length places
in_row [] thread step w = absurd (let h : step < 0 = w in omega arith)
in_row (row ∷ rows) zero step w = omega arith
in_row (row ∷ rows) (suc thread) step w = let h : thread < length rows = in_row rows thread step w in omega arith

pub place_read : (places : List (List Place)) (thread step : ℕ) (row : List Place) (d : Place) → row ≡ get_or places thread row → step < length (get_or places thread [])
    → slice_get (get_or places thread []) step ≡ Some (get_or row step d)
place_read places thread step row d read w =
    let same : row ≡ get_or places thread [] = read ∙ get_or_default places thread row [] (in_row places thread step w) in
    slice_get-get_or (get_or places thread []) step d w ∙ ap (λ (r : List Place). Some (get_or r step d)) (sym same)
