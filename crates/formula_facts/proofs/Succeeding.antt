-- What is known of accesses is what their outcomes are said by.
use Rattle.std.specs.Prelude.{◌≡◌, ℕ, ◌<◌, List, All, length, get_or, Option, Some, None}
use Rattle.std.proofs.Common.{sym, ◌∙◌, ap, subst}
use Rattle.std.proofs.lemmas.List.Elements.{All-from_get_or}
use Rattle.race_set.specs.declared.shape.AccessShape.{AccessShape}
use Rattle.order_clauses.specs.declared.order_lit.OrderLit.TheVariants as order_lit
use Rattle.encoder.specs.declared.encoder.Encoder.{Encoder}
use Rattle.encoder.proofs.Encoding.{get_or_any}
use Rattle.thread_terms.specs.declared.access.Access.{Access}
use Rattle.term_sources.specs.Sees.{access_at, no_access}
use Rattle.formula_parts.specs.Order.{ArePlaces, Setting}
use Rattle.formula_parts.specs.Parts.{Adds}
use Rattle.formula_parts.proofs.Composing.{nothing}
use Rattle.reader_parts.specs.Conditions.{HasTerms}
use Rattle.reader_parts.proofs.Later.{all_have_later}
use Rattle.outcome_parts.specs.declared.rival.Rival.{Rival}
use Rattle.outcome_parts.specs.Outcomes.{CanSucceed}
use Rattle.outcome_parts.specs.Rivals.{KnowsRival, rival_at}
use Rattle.rivals.specs.Between.{AreRivals, IsConditionalIn}
use Rattle.formula_facts.specs.declared.known.Known.{Known}
use Rattle.formula_facts.specs.Known.{CanAdd, IsKnownIn, IsLink, IsReadyFor, outcome_by, outcome_of_access}
use Rattle.elf_image.specs.Layout.{Layout}

-- an access that looks back to nothing has no outcome to be said
pub no_outcome : (setting : Setting) (encoder : Encoder) (accesses : List Access) (x : ℕ) → IsReadyFor setting encoder → (access_at accesses x).link ≡ None
    → Adds setting encoder encoder (outcome_of_access accesses x)
no_outcome setting encoder accesses x ready link =
    subst (λ (o : Option ℕ). Adds setting encoder encoder (outcome_by o x)) (sym link) (nothing setting encoder ready.stands)

-- an access of known ones that looks back to another one
pub record Links (known : Known) (lr x : ℕ) : Type 0 where
  pub there : x < length known.accesses
  pub link : (access_at known.accesses x).link ≡ Some lr

link_in : (setting : Setting) (known : Known) (lr x : ℕ) → IsKnownIn setting known → Links known lr x → IsLink setting known.shapes lr x
link_in setting known lr x is links =
    is.links x lr (subst (λ (accesses : List Access). x < length accesses) (sym is.accesses_are) links.there)
    (subst (λ (accesses : List Access). (access_at accesses x).link ≡ Some lr) (sym is.accesses_are) links.link)

pub reserved_in : (image : Layout) (known : Known) (encoder : Encoder) (lr x : ℕ) → CanAdd image known encoder → Links known lr x → lr < length known.accesses
reserved_in image known encoder lr x can links =
    subst (λ (accesses : List Access). lr < length accesses) can.is.accesses_are (link_in can.setting known lr x can.is links).there

pub have_terms : (image : Layout) (known : Known) (encoder : Encoder) → CanAdd image known encoder → All (HasTerms encoder.pool) known.accesses
have_terms image known encoder can =
    subst (All (HasTerms encoder.pool)) can.is.accesses_are
    (all_have_later can.setting.nodes encoder.pool can.setting.accesses can.ready.stands.terms can.is.typed.terms)

-- the store-conditional of a link, where shapes and places are known
conditional : (setting : Setting) (known : Known) (lr x : ℕ) → IsKnownIn setting known → Links known lr x
    → IsConditionalIn setting known.order known.shapes known.places known.vars lr x
conditional setting known lr x is links = record {
  are = is.are;
  order_of = is.order_of;
  counted = is.counted;
  has = is.has;
  table = is.table_is;
  ordered = is.ordered;
  back = (link_in setting known lr x is links).back;
}

-- rivals that a call found
abbrev pub AreFound : Known → (shapes : List AccessShape) → (places : List (Option ℕ)) → (lr x : ℕ) → List Rival → Type 0
AreFound known shapes places lr x rivals =
    (setting : Setting) (count : ℕ) → IsConditionalIn setting known.order shapes places known.vars lr x
    → ArePlaces (length setting.accesses) count setting.places → AreRivals setting count lr x rivals

rivals_there : (setting : Setting) (known : Known) (encoder : Encoder) (shapes : List AccessShape) (places : List (Option ℕ)) (lr x : ℕ) (rivals : List Rival)
    → IsKnownIn setting known → IsReadyFor setting encoder → Links known lr x → shapes ≡ known.shapes → places ≡ known.places
    → AreFound known shapes places lr x rivals → AreRivals setting encoder.clauses.vars lr x rivals
rivals_there setting known encoder shapes places lr x rivals is ready links same_shapes same_places found =
    found setting encoder.clauses.vars
    (subst (λ (ss : List AccessShape). IsConditionalIn setting known.order ss places known.vars lr x) (sym same_shapes)
    (subst (λ (ps : List (Option ℕ)). IsConditionalIn setting known.order known.shapes ps known.vars lr x) (sym same_places) (conditional setting known lr x is links)))
    ready.stands.places

pub rivals_known : (image : Layout) (known : Known) (encoder : Encoder) (shapes : List AccessShape) (places : List (Option ℕ)) (lr x : ℕ) (rivals : List Rival)
    → CanAdd image known encoder → Links known lr x → shapes ≡ known.shapes → places ≡ known.places
    → AreFound known shapes places lr x rivals → All (KnowsRival encoder.clauses.vars (length known.accesses)) rivals
rivals_known image known encoder shapes places lr x rivals can links same_shapes same_places found =
    let are : AreRivals can.setting encoder.clauses.vars lr x rivals =
    rivals_there can.setting known encoder shapes places lr x rivals can.is can.ready links same_shapes same_places found in
    All-from_get_or (KnowsRival encoder.clauses.vars (length known.accesses)) rivals (record { access = 0; after = order_lit.Always; before = order_lit.Always })
    (λ (k : ℕ) (less : k < length rivals). record {
      there = subst (λ (accesses : List Access). (rival_at rivals k).access < length accesses) can.is.accesses_are (are.each k less).there;
      after = (are.each k less).after.known;
      before = (are.each k less).before.known;
    })

pub can_succeed : (setting : Setting) (known : Known) (encoder : Encoder) (shapes : List AccessShape) (places : List (Option ℕ)) (lr x : ℕ) (rivals : List Rival)
    → IsKnownIn setting known → IsReadyFor setting encoder → Links known lr x → shapes ≡ known.shapes → places ≡ known.places
    → AreFound known shapes places lr x rivals → CanSucceed setting encoder lr x rivals
can_succeed setting known encoder shapes places lr x rivals is ready links same_shapes same_places found =
    let are : AreRivals setting encoder.clauses.vars lr x rivals =
    rivals_there setting known encoder shapes places lr x rivals is ready links same_shapes same_places found in record {
      stands = ready.stands;
      terms = is.typed.terms;
      there = subst (λ (accesses : List Access). x < length accesses) (sym is.accesses_are) links.there;
      reserved = (link_in setting known lr x is links).there;
      link = subst (λ (accesses : List Access). (access_at accesses x).link ≡ Some lr) (sym is.accesses_are) links.link;
      earlier = are.earlier;
      each = are.each;
      enough = are.enough;
    }

-- the outcome of an access that looks back
pub one_outcome : (setting : Setting) (old new : Encoder) (accesses : List Access) (lr x : ℕ) → (access_at accesses x).link ≡ Some lr
    → Adds setting old new (outcome_by (Some lr) x) → Adds setting old new (outcome_of_access accesses x)
one_outcome setting old new accesses lr x link adds = subst (λ (o : Option ℕ). Adds setting old new (outcome_by o x)) (sym link) adds

-- the link of an access that was looked up in a slice
pub link_from : (slice accesses : List Access) (x : ℕ) (d : Access) (o : Option ℕ) → slice ≡ accesses → x < length accesses → (get_or slice x d).link ≡ o
    → (access_at accesses x).link ≡ o
link_from slice accesses x d o same there link =
    ap (λ (a : Access). a.link) (get_or_any accesses x no_access d there) ∙ ap (λ (xs : List Access). (get_or xs x d).link) (sym same) ∙ link
