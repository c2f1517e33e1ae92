use Rattle.std.proofs.Common.{◌≡◌, ◌+◌, ◌∷◌, ◌++◌, ◌<◌, [], List, take, length, get_or, sym, subst, rules, arith}
use Rattle.source_clauses.specs.declared.reader.Candidate.{Candidate}
use Rattle.encoder.proofs.Encoding.{get_or_any, take_more}
use Rattle.reader_parts.specs.declared.reading.Spot.{Spot}
use Rattle.reader_parts.proofs.Candidates.{SoFar, none_yet, one_more}
use Rattle.reader_parts.proofs.candidate.candidates_of.Goals as goal

pub loop-k-init : goal.loop-k-init
loop-k-init g c =
    subst (λ (xs : List Candidate). SoFar c.args.encoder.now c.args.encoder.now c.args.accesses.now c.args.reading [] xs) (sym c.new-candidates.ensures)
    (none_yet c.args.encoder.now c.args.accesses.now c.args.reading c.requires.known)

pub loop-k-preserved : goal.loop-k-preserved
loop-k-preserved g c =
    let spots = c.args.spots.now in
    let k = c.loop-k.k in
    let none : Spot = record { access = 0; byte = 0; at = 0 } in
    let spot = get_or spots k none in
    let within : k < length spots = first_of (search rules, omega arith) in
    let source = c.requires.sources k none within in
    let next : take (k + 1) spots ≡ take k spots ++ spot ∷ [] = take_more spots k spot within (get_or_any spots k none spot within) in
    subst (λ (xs : List Spot). SoFar c.args.encoder.now c.candidate_of.new.encoder c.args.accesses.now c.args.reading xs c.push.new.self) (sym next)
    (subst (λ (ys : List Candidate). SoFar c.args.encoder.now c.candidate_of.new.encoder c.args.accesses.now c.args.reading (take k spots ++ spot ∷ []) ys) (sym c.in_ok-push.ensures)
    (one_more c.args.encoder.now c.loop-k.encoder c.candidate_of.new.encoder c.args.accesses.now c.args.reading (take k spots) spot c.loop-k.candidates c.in_ok-candidate.candidate
    c.requires.terms source.there c.requires.reader c.loop-k.invariant c.in_ok-candidate.ensures.encodes c.in_ok-candidate.ensures.candidate))
