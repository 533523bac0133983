-- Fetches that are outstanding, as plain data.
use Rattle.std.proofs.Common.{Bool, List, [], false, inl, inr, refl, subst, sym, true}
use Rattle.std.proofs.Common.{◌&&◌, ◌==◌, ◌∙◌, ◌∷◌, ◌≡◌}
use Rattle.std.proofs.lemmas.Bool.{and_parts, eqb-true}
use Rattle.std.specs.List.{list_all, list_any}
use Rattle.base_types.specs.Ids.{same_fid}
use Rattle.message_types.specs.declared.asking.Fetch.{Fetch as FetchOf}
use Rattle.message_types.specs.declared.giving.AppliedGive.{AppliedGive}
use Rattle.message_types.specs.declared.message.Body.{Body}
use Rattle.message_types.specs.declared.message.Body.TheVariants.{Fetch}
use Rattle.token_types.specs.declared.token.Need.{Need}
use Rattle.run_rules.specs.Messages.{Asking}
use Rattle.run_rules.specs.Past.{In}
use Rattle.run_rules.specs.declared.step.Step.{Step}
use Rattle.run_examples.proofs.Tests.{any_of, at_all, fid_is, kind_is, list_is, number_is, numbers, same_kind, same_list}
use Rattle.run_examples.proofs.Tests.{same_number, some_in}
use Rattle.run_examples.proofs.Words.{asking, asking_in, in_asking, numbered}

abbrev pub same_need : Need → Need → Bool
same_need a b = same_fid a.fid b.fid && same_kind a.kind b.kind

pub need_is : (a b : Need) → same_need a b ≡ true → a ≡ b
need_is a b e =
    let p = and_parts (same_fid a.fid b.fid) (same_kind a.kind b.kind) e in
    let f = fid_is a.fid b.fid p.0 in
    let k = kind_is a.kind b.kind p.1 in
    λ i. record { fid = f i; kind = k i }

abbrev pub same_fetch : FetchOf → FetchOf → Bool
same_fetch a b = (a.number == b.number) && (same_fid a.fid b.fid && same_list same_need a.needs b.needs)

fetch_same : (a b : FetchOf) → same_fetch a b ≡ true → a ≡ b
fetch_same a b e =
    let p = and_parts (a.number == b.number) (same_fid a.fid b.fid && same_list same_need a.needs b.needs) e in
    let q = and_parts (same_fid a.fid b.fid) (same_list same_need a.needs b.needs) p.1 in
    let n = eqb-true a.number b.number p.0 in
    let f = fid_is a.fid b.fid q.0 in
    let s = list_is same_need need_is a.needs b.needs q.1 in
    λ i. record { number = n i; fid = f i; needs = s i }

unfoldable pub is_fetch : FetchOf → Body → Bool
is_fetch f (Fetch g) = same_fetch g f
is_fetch f _ = false

pub fetch_body : (f : FetchOf) (b : Body) → is_fetch f b ≡ true → b ≡ Fetch f
unfolding is_fetch
fetch_body f (Fetch g) e = let p = fetch_same g f e in λ i. Fetch (p i)
fetch_body f b e = absurd (cc)

unfoldable pub is_asking : List Step → FetchOf → Bool
is_asking past f = list_any (same_number (numbered f.fid.fileset f.number)) (asking past)

pub asking_is : (past : List Step) (f : FetchOf) → Asking past f.fid.fileset f.number → is_asking past f ≡ true
unfolding is_asking
asking_is past f a =
    any_of (same_number (numbered f.fid.fileset f.number)) (asking past) (numbered f.fid.fileset f.number)
    (asking_in past f.fid.fileset f.number a)
    (numbers (numbered f.fid.fileset f.number) (numbered f.fid.fileset f.number) refl)

pub asking_yes : (past : List Step) (f : FetchOf) → is_asking past f ≡ true → Asking past f.fid.fileset f.number
unfolding is_asking
asking_yes past f e =
    let p = some_in (same_number (numbered f.fid.fileset f.number)) (asking past) e in
    in_asking past f.fid.fileset f.number
    (subst (λ x. In x (asking past)) (sym (number_is (numbered f.fid.fileset f.number) p.0 p.2)) p.1)

-- all numbers are one
unfoldable pub one_number : List AppliedGive → Bool
one_number [] = true
one_number (n ∷ ns) = list_all (same_number n) ns

the_first : (n : AppliedGive) (ns : List AppliedGive) (a : AppliedGive) → list_all (same_number n) ns ≡ true
    → In a (n ∷ ns) → a ≡ n
the_first n ns a e (inl q) = q
the_first n ns a e (inr m) = sym (number_is n a (at_all (same_number n) ns a e m))

pub one_number_of : (ns : List AppliedGive) (a b : AppliedGive) → one_number ns ≡ true → In a ns → In b ns → a ≡ b
unfolding one_number
one_number_of [] a b e x y = elim x [ ]
one_number_of (n ∷ ns) a b e x y = the_first n ns a e x ∙ sym (the_first n ns b e y)
