-- What a host asks for.
use Rattle.std.proofs.Common.{◌≡◌, ℕ, ◌||◌, Bool, true, false, Some, List, ◌∷◌, inl, inr, sym, ◌∙◌, ap, subst, refl}
use Rattle.std.proofs.Common.{arith}
use Rattle.std.proofs.lemmas.Bool.{and_parts, false≢true}
use Rattle.std.specs.List.{list_any}
use Rattle.base_types.specs.Ids.{same_fid}
use Rattle.base_types.specs.Spans.{has_byte}
use Rattle.base_types.specs.declared.ids.Fid.{Fid}
use Rattle.base_types.specs.declared.ids.HostId.{HostId}
use Rattle.need_host.specs.Shows.{is_update, shows}
use Rattle.tree_answers.proofs.Followed.{same_fid_itself}
use Rattle.message_types.specs.declared.asking.Fetch.{Fetch as FetchOf}
use Rattle.message_types.specs.declared.message.Body.TheVariants.{Down, Fetch}
use Rattle.script_lines.specs.declared.script.Script.{Script}
use Rattle.token_types.specs.Covers.{Covers, covers_alone, covers_byte, kind_covers, kind_covers_byte}
use Rattle.token_types.specs.declared.token.Kind.{Kind}
use Rattle.token_types.specs.declared.token.Kind.TheVariants.{Bytes, Lock, Opening, Status}
use Rattle.token_types.specs.declared.token.Need.{Need}
use Rattle.token_types.specs.declared.token.Token.{Token}
use Rattle.tree_laws.proofs.Steps.{fid_is}
use Rattle.tree_laws.specs.Parts.{Nature, Part}
use Rattle.tree_laws.specs.Parts.Part.{ByteAt, Entries, Size, Traits}
use Rattle.run_rules.specs.HostAsks.{FetchNeeds, FileNeeds, IsNewFetch}
use Rattle.run_rules.specs.HostAsks.FetchNeeds.{OfDirectory, OfFile, OfUnknown}
use Rattle.run_rules.specs.HostMay.{HostMay}
use Rattle.run_rules.specs.Messages.{HasStopped, SendsFetch}
use Rattle.run_rules.specs.Past.{In}
use Rattle.run_rules.specs.Tokens.{Owns}
use Rattle.run_rules.specs.Views.{needs_in, sees as host_sees}
use Rattle.run_parts.specs.Contents.{Asks, Contents, FetchesSo, Knows, KnowsDirectory, Pending}
use Rattle.run_contents.proofs.Gives.{owns_held}
use Rattle.run_contents.proofs.Views.{dirty_same, sees_same}
use Rattle.run_contents.proofs.Words.{any_in, both, in_any}
use Rattle.run_contents.specs.Steps.{HostRun, IsOfJournal}
use Rattle.run_rules.specs.declared.step.Step.{Step}

for_reading : (u : Bool) → (u || true) ≡ true
for_reading true = refl
for_reading false = refl

-- a token that covers the status shows the traits
status_shows : (k : Kind) → kind_covers k (Status false) ≡ true → shows k Traits ≡ true
status_shows (Status u) e = refl
status_shows (Bytes u span) e = absurd (false≢true e)
status_shows (Lock u span) e = absurd (false≢true e)
status_shows (Opening u) e = absurd (false≢true e)

-- what shows a part that the status shows covers the status
covers_status : (p : Part) (k : Kind) → shows (Status false) p ≡ true → shows k p ≡ true
    → kind_covers k (Status false) ≡ true
covers_status (ByteAt q) k a b = absurd (false≢true a)
covers_status Entries k a b = absurd (false≢true a)
covers_status Size (Status u) a b = for_reading u
covers_status Traits (Status u) a b = for_reading u
covers_status Size (Bytes u span) a b = absurd (false≢true b)
covers_status Size (Lock u span) a b = absurd (false≢true b)
covers_status Size (Opening u) a b = absurd (false≢true b)
covers_status Traits (Bytes u span) a b = absurd (false≢true b)
covers_status Traits (Lock u span) a b = absurd (false≢true b)
covers_status Traits (Opening u) a b = absurd (false≢true b)

-- what is for update of a part of the status covers the status
updates_status : (p : Part) (k : Kind) (u : Bool) → shows (Status u) p ≡ true → shows k p ≡ true
    → is_update k ≡ true → kind_covers k (Status u) ≡ true
updates_status (ByteAt q) k u a b c = absurd (false≢true a)
updates_status Entries k u a b c = absurd (false≢true a)
updates_status Size (Status true) u a b c = refl
updates_status Traits (Status true) u a b c = refl
updates_status Size (Status false) u a b c = absurd (false≢true c)
updates_status Traits (Status false) u a b c = absurd (false≢true c)
updates_status Size (Bytes m span) u a b c = absurd (false≢true b)
updates_status Size (Lock m span) u a b c = absurd (false≢true b)
updates_status Size (Opening m) u a b c = absurd (false≢true b)
updates_status Traits (Bytes m span) u a b c = absurd (false≢true b)
updates_status Traits (Lock m span) u a b c = absurd (false≢true b)
updates_status Traits (Opening m) u a b c = absurd (false≢true b)

module _ (c : Contents) (same : IsOfJournal c) (script : Script) (host : HostId) (past : List Step) (s : Step)
    (run : HostRun script host past) (m : HostMay script host past s) where
  -- a host that fetches hasn't stopped
  live : (f : FetchOf) → SendsFetch s f → HasStopped (s ∷ past) → ⊥
  live f (v, e, n, q) (w, d, k, inl z) =
      let r : Fetch f ≡ Down = m.tokens.stops_alone v e n (Fetch f) (w, d, k, z) q in
      cc
  live f q (w, d, k, inr z) = m.tokens.live (w, d, k, z)

  kept_of : (f : FetchOf) → SendsFetch s f → (t : Token) → Owns (s ∷ past) t → In t m.stance.kept
  kept_of f q t owned = (m.stance.keeps t).1 (owns_held script host (s ∷ past) (run, m) (live f q) t owned)

  covered : (f : Fid) (t : Token) (k : Kind) → In t m.stance.kept → t.fid ≡ f → kind_covers t.kind k ≡ true
      → list_any (covers_alone f k) m.stance.kept ≡ true
  covered f t k i file e =
      in_any (covers_alone f k) m.stance.kept t i
      (both (same_fid t.fid f) (kind_covers t.kind k)
      (ap (λ (z : Fid). same_fid t.fid z) (sym file) ∙ same_fid_itself t.fid) e)

  -- what covers the status of an object at the end was at hand
  knows : (f : Fid) (n : Nature) → Covers m.stance.kept (record { fid = f; kind = Status false })
      → host_sees past s f Traits ≡ Some n → Knows c past s f n
  knows f n cov e =
      let t = any_in (covers_alone f (Status false)) m.stance.kept cov in
      let q = and_parts (same_fid t.0.fid f) (kind_covers t.0.kind (Status false)) t.2 in
      record {
        token = t.0;
        held = ((m.stance.keeps t.0).0 t.1).0;
        file = fid_is t.0.fid f q.0;
        covers = status_shows t.0.kind q.1;
        sees = sees_same c same script host past run s f Traits ∙ e;
      }

  -- of a file nothing is asked for that may be unsaved
  unasked : (f : FetchOf) → SendsFetch s f → (needs asked : List Need)
      → FileNeeds (s ∷ past) m.stance.kept needs f.fid asked → (p : Part) (n : Need) → In n asked
      → shows n.kind p ≡ true → Pending c (s ∷ past) f.fid p → ⊥
  unasked f q needs asked file p n i cov pending = go n.kind p (subst (λ (z : Need). In z asked) its i) cov pending
    where
      its : n ≡ record { fid = f.fid; kind = n.kind }
      its j = record { fid = (file.only n i).0 j; kind = n.kind }

      go : (k : Kind) (p : Part) → In (record { fid = f.fid; kind = k }) asked → shows k p ≡ true
          → Pending c (s ∷ past) f.fid p → ⊥
      go (Bytes u span) (ByteAt b) i cov d = (file.bytes u b (span, i, cov)).1
          (b, refl, sym (dirty_same c same script host (s ∷ past) (run, m) f.fid b) ∙ d)
      go (Status u) Size i cov o = (file.status u i).1
          (covered f.fid o.token (Status true) (kept_of f q o.token o.owned) o.file
          (updates_status Size o.token.kind true refl o.covers o.update))
      go (Bytes u span) Size i cov o = false≢true cov
      go (Status u) (ByteAt b) i cov d = false≢true cov
      go (Lock w span) (ByteAt b) i cov d = false≢true cov
      go (Lock w span) Size i cov o = false≢true cov
      go (Opening kind) (ByteAt b) i cov d = false≢true cov
      go (Opening kind) Size i cov o = false≢true cov
      go k Traits i cov d = d
      go k Entries i cov d = d

  -- what may be unsaved of a status is under a token that covers it
  status_known : (f : FetchOf) → SendsFetch s f → (p : Part) → shows (Status false) p ≡ true
      → Pending c (s ∷ past) f.fid p → Covers m.stance.kept (record { fid = f.fid; kind = Status false })
  status_known f q Size cov o = covered f.fid o.token (Status false) (kept_of f q o.token o.owned) o.file
      (covers_status Size o.token.kind cov o.covers)
  status_known f q (ByteAt b) cov d = absurd (false≢true cov)
  status_known f q Traits cov d = elim d [ ]
  status_known f q Entries cov d = elim d [ ]

  free : (f : FetchOf) → SendsFetch s f → (needs : List Need) (asked : List Need)
      → FetchNeeds past s m.stance.kept needs f.fid asked → (p : Part) (n : Need) → In n asked
      → shows n.kind p ≡ true → Pending c (s ∷ past) f.fid p → KnowsDirectory c past s f.fid
  free f q needs asked (OfDirectory (inl root) eq) p n i cov o = inl (root ∙ sym (same.root f.fid.fileset))
  free f q needs asked (OfDirectory (inr (status, (nature, seen, dir))) eq) p n i cov o =
      inr (nature, knows f.fid nature status seen, dir)
  free f q needs asked (OfUnknown nd none eq) p n i cov o =
      elim (subst (λ l. In n l) eq i) [
        | inl one ↦ absurd (none (status_known f q p (subst (λ (z : Need). shows z.kind p ≡ true) one cov) o))
        | inr z ↦ elim z [ ]
      ]
  free f q needs asked (OfFile nd status file) p n i cov o = absurd (unasked f q needs asked file p n i cov o)

  new_asks : (f : FetchOf) → SendsFetch s f → IsNewFetch script.roster host past s m.stance f → Asks c past s f
  new_asks f q new = record {
    new = λ g said files numbers. (let lt = new.next.above g.number (g, said, files, refl) in omega (arith, lt, numbers));
    free = free f q (needs_in m.stance new.call.call) f.needs new.needs;
    back = λ g made file never. new.no_give (g, made, file, never);
  }

  pub fetches_so : FetchesSo c past s
  fetches_so f q = elim (m.asks.fetches f q) [ inl old ↦ inl old | inr new ↦ inr (new_asks f q new) ]
