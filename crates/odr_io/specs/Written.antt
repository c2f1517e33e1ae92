-- What a sink was given.
use Rattle.std.specs.Prelude.{◌≡◌, List, [], ◌++◌, ℕ, take, drop, Option, None, Some, refl}
use Rattle.std.specs.Io.KnownBytes.{append_known}
use Rattle.std.proofs.lemmas.List.{take-append-drop}
use Rattle.std.proofs.Common.{ap, sym, ◌∙◌, append_assoc, append-nil}

-- where it is told, the bytes so far grew by a prefix of these
pub record AppendsPrefix (old new : Option (List ℕ)) (bytes : List ℕ) : Type 0 where
  pub prefix : List ℕ
  pub rest : List ℕ
  pub parts : bytes ≡ prefix ++ rest
  pub appended : new ≡ append_known old prefix

-- bytes that are appended one after another are appended joined
pub append_known-append_known : (told : Option (List ℕ)) (first second : List ℕ)
    → append_known (append_known told first) second ≡ append_known told (first ++ second)
append_known-append_known None first second = refl
append_known-append_known (Some bytes) first second = ap Some (append_assoc bytes first second)

pub append_known-nothing : (told : Option (List ℕ)) → append_known told [] ≡ told
append_known-nothing None = refl
append_known-nothing (Some bytes) = ap Some (append-nil bytes)

-- nothing, and all of the bytes, are prefixes of them
pub AppendsPrefix-nothing : (old new : Option (List ℕ)) (bytes : List ℕ) → new ≡ old → AppendsPrefix old new bytes
AppendsPrefix-nothing old new bytes same =
    record { prefix = []; rest = bytes; parts = refl; appended = same ∙ sym (append_known-nothing old) }

pub AppendsPrefix-all : (old new : Option (List ℕ)) (bytes : List ℕ) → new ≡ append_known old bytes → AppendsPrefix old new bytes
AppendsPrefix-all old new bytes appended =
    record { prefix = bytes; rest = []; parts = sym (append-nil bytes); appended = appended }

-- the first `count` bytes are a prefix
pub AppendsPrefix-take : (old new : Option (List ℕ)) (bytes : List ℕ) (count : ℕ)
    → new ≡ append_known old (take count bytes) → AppendsPrefix old new bytes
AppendsPrefix-take old new bytes count appended =
    record { prefix = take count bytes; rest = drop count bytes; parts = sym (take-append-drop count bytes); appended = appended }

-- a prefix of the first bytes is one of the first and the second
pub AppendsPrefix-first : (old new : Option (List ℕ)) (first second : List ℕ)
    → AppendsPrefix old new first → AppendsPrefix old new (first ++ second)
AppendsPrefix-first old new first second p = record {
  prefix = p.prefix;
  rest = p.rest ++ second;
  parts = ap (λ bytes. bytes ++ second) p.parts ∙ append_assoc p.prefix p.rest second;
  appended = p.appended;
}

-- after the first bytes, a prefix of the second is one of both
pub AppendsPrefix-second : (old between new : Option (List ℕ)) (first second : List ℕ)
    → between ≡ append_known old first → AppendsPrefix between new second → AppendsPrefix old new (first ++ second)
AppendsPrefix-second old between new first second appended p = record {
  prefix = first ++ p.prefix;
  rest = p.rest;
  parts = ap (λ bytes. first ++ bytes) p.parts ∙ sym (append_assoc first p.prefix p.rest);
  appended = p.appended ∙ ap (λ told. append_known told p.prefix) appended ∙ append_known-append_known old first p.prefix;
}

-- for `grind`: a sink that is given bytes one after another
pub ruleset prefixes = (AppendsPrefix-nothing, AppendsPrefix-all, AppendsPrefix-take, AppendsPrefix-first, AppendsPrefix-second)
