-- Conflicts go both ways.
use Rattle.std.proofs.Common.{◌≡◌, ℕ, Bool, true, false, ◌==◌, ◌||◌, nat_lt, min, max, refl, arith}
use Rattle.std.proofs.lemmas.Bool.Decides.{nat_tests}
use Rattle.base_types.specs.declared.ids.Fid.{Fid}
use Rattle.base_types.specs.Opens.{opens_conflict}
use Rattle.base_types.specs.Ids.{same_fid}
use Rattle.base_types.specs.declared.ids.OpenKind.{OpenKind}
use Rattle.base_types.specs.declared.ids.OpenKind.TheVariants.{Reading, Writing, Executing, Shared, Exclusive}
use Rattle.token_types.specs.Conflicts.{kinds_conflict, needs_conflict, conflict}
use Rattle.token_types.specs.declared.token.Kind.{Kind}
use Rattle.token_types.specs.declared.token.Kind.TheVariants.{Bytes, Status, Lock, Opening}
use Rattle.token_types.specs.declared.token.Need.{Need}
use Rattle.token_types.specs.declared.token.Token.{Token}

pub same_number : (a b : ℕ) → (a == b) ≡ (b == a)
same_number a b = grind (arith, nat_tests)

overlap_both : (a b c d : ℕ) → nat_lt (max a c) (min b d) ≡ nat_lt (max c a) (min d b)
overlap_both a b c d = grind (arith, nat_tests)

or_both : (x y : Bool) → (x || y) ≡ (y || x)
or_both true true = refl
or_both true false = refl
or_both false true = refl
or_both false false = refl

opens_both : (a b : OpenKind) → opens_conflict a b ≡ opens_conflict b a
opens_both Reading Reading = refl
opens_both Reading Writing = refl
opens_both Reading Executing = refl
opens_both Reading Shared = refl
opens_both Reading Exclusive = refl
opens_both Writing Reading = refl
opens_both Writing Writing = refl
opens_both Writing Executing = refl
opens_both Writing Shared = refl
opens_both Writing Exclusive = refl
opens_both Executing Reading = refl
opens_both Executing Writing = refl
opens_both Executing Executing = refl
opens_both Executing Shared = refl
opens_both Executing Exclusive = refl
opens_both Shared Reading = refl
opens_both Shared Writing = refl
opens_both Shared Executing = refl
opens_both Shared Shared = refl
opens_both Shared Exclusive = refl
opens_both Exclusive Reading = refl
opens_both Exclusive Writing = refl
opens_both Exclusive Executing = refl
opens_both Exclusive Shared = refl
opens_both Exclusive Exclusive = refl

kinds_both : (a b : Kind) → kinds_conflict a b ≡ kinds_conflict b a
kinds_both (Bytes update span) (Bytes update2 span2) = rw (
  or_both update update2,
  overlap_both span.from span.to
      span2.from span2.to,
)
kinds_both (Bytes update span) (Status update2) = refl
kinds_both (Bytes update span) (Lock writing2 span2) = refl
kinds_both (Bytes update span) (Opening kind2) = refl
kinds_both (Status update) (Bytes update2 span2) = refl
kinds_both (Status update) (Status update2) = or_both update update2
kinds_both (Status update) (Lock writing2 span2) = refl
kinds_both (Status update) (Opening kind2) = refl
kinds_both (Lock writing span) (Bytes update2 span2) = refl
kinds_both (Lock writing span) (Status update2) = refl
kinds_both (Lock writing span) (Lock writing2 span2) = rw (
  or_both writing writing2,
  overlap_both span.from span.to
      span2.from span2.to,
)
kinds_both (Lock writing span) (Opening kind2) = refl
kinds_both (Opening kind) (Bytes update2 span2) = refl
kinds_both (Opening kind) (Status update2) = refl
kinds_both (Opening kind) (Lock writing2 span2) = refl
kinds_both (Opening kind) (Opening kind2) = opens_both kind kind2

pub fids_both : (a b : Fid) → same_fid a b ≡ same_fid b a
fids_both a b = rw (same_number a.fileset.0 b.fileset.0, same_number a.anode b.anode, same_number a.unique b.unique)

pub conflict_both : (a b : Token) → conflict a b ≡ conflict b a
conflict_both a b = rw (same_number a.host.0 b.host.0, fids_both a.fid b.fid, kinds_both a.kind b.kind)

pub needs_both : (a b : Need) → needs_conflict a b ≡ needs_conflict b a
needs_both a b = rw (fids_both a.fid b.fid, kinds_both a.kind b.kind)
