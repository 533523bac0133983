-- What is marked as used stays held.
use Rattle.std.proofs.Common.{◌≡◌, ◌∙◌, Bool, Err, IsTrue, List, None, Ok, Result, [], ◌∷◌, ap}
use Rattle.std.proofs.Common.{refl}
use Rattle.std.proofs.Common.{false, subst, sym, true, ℕ}
use Rattle.std.specs.List.{list_any}
use Rattle.base_types.specs.declared.ids.Fid.{Fid}
use Rattle.host_cache.proofs.Lists.{any-map, any_first}
use Rattle.host_cache.specs.Holding.{helps_cover, tokens_of}
use Rattle.host_cache.specs.Seen.{Seen, after_used, seen}
use Rattle.host_cache.specs.declared.held.Held.{Held}
use Rattle.host_calls.specs.Answering.{MarksUsed, last_needs, way_of}
use Rattle.host_calls.specs.Looking.{IsBacked}
use Rattle.host_calls.specs.declared.looking.Verdict.{Verdict}
use Rattle.host_calls.specs.declared.looking.Verdict.TheVariants.{Asks, Does, Frees, Gives, Lists, Reads, Shows, Syncs}
use Rattle.host_calls.specs.declared.looking.Verdict.TheVariants.{Tells, Uses, Writes}
use Rattle.host_labels.specs.Labels.{InUse, is_lock, use_of}
use Rattle.host_tables.specs.Tables.{content, held_of}
use Rattle.host_tables.specs.declared.tables.Tables.{Tables}
use Rattle.host_walk.specs.Marks.{marks_of, used_all}
use Rattle.token_types.specs.Covers.{Covers, CoversBetween, covers_alone, covers_byte}
use Rattle.token_types.specs.declared.token.Kind.{Kind}
use Rattle.token_types.specs.declared.token.Kind.TheVariants.{Bytes, Lock, Opening, Status}
use Rattle.token_types.specs.declared.token.Need.{Need}
use Rattle.token_types.specs.declared.token.Token.{Token}
use Rattle.tree_calls.specs.declared.call.Call.{Call}
use Rattle.tree_calls.specs.declared.reply.Refusal.{Refusal}

-- the tokens that are held are the same, in another order
any_used : (test : Token → Bool) (need : Need) (shown : Seen) →
    list_any test (tokens_of (after_used shown need).held) ≡ list_any test (tokens_of shown.held)
any_used test need shown =
    any-map test (λ (h : Held). h.token) (after_used shown need).held
    ∙ any_first (λ (h : Held). test h.token) (λ (h : Held). helps_cover need h.token) shown.held
    ∙ sym (any-map test (λ (h : Held). h.token) shown.held)

any_used_all : (test : Token → Bool) (needs : List Need) (shown : Seen) →
    list_any test (tokens_of (used_all needs shown).held) ≡ list_any test (tokens_of shown.held)
any_used_all test [] shown = refl
any_used_all test (need ∷ needs) shown =
    any_used_all test needs (after_used shown need) ∙ any_used test need shown

module _ (m new : Tables) (needs : List Need) (marked : seen new.cache ≡ used_all needs (seen m.cache)) where
  any_held : (test : Token → Bool) → list_any test (held_of m) ≡ list_any test (held_of new)
  any_held test =
      sym (ap (λ (s : Seen). list_any test (tokens_of s.held)) marked ∙ any_used_all test needs (seen m.cache))

  pub between_stays : (fid : Fid) (update : Bool) (from to : ℕ) → CoversBetween (held_of m) fid update from to →
      CoversBetween (held_of new) fid update from to
  between_stays fid update from to all at low high =
      subst IsTrue (any_held (covers_byte fid update at)) (all at low high)

  pub covers_stays : (fid : Fid) (kind : Kind) → Covers (held_of m) (record { fid = fid; kind = kind }) →
      Covers (held_of new) (record { fid = fid; kind = kind })
  covers_stays fid (Bytes update span) h = between_stays fid update span.from span.to h
  covers_stays fid (Status update) h = subst IsTrue (any_held (covers_alone fid (Status update))) h
  covers_stays fid (Lock writing span) h = subst IsTrue (any_held (covers_alone fid (Lock writing span))) h
  covers_stays fid (Opening kind) h = subst IsTrue (any_held (covers_alone fid (Opening kind))) h

  module _ (uses : new.uses ≡ m.uses) (call : Call) where
    unused_stays : (lock : Bool) (label : List ℕ) → use_of m.uses lock label ≡ None →
        use_of new.uses lock label ≡ None
    unused_stays lock label e = ap (λ (u : InUse). use_of u lock label) uses ∙ e

    pub backed_stays : (verdict : Result Verdict Refusal) → IsBacked m call verdict → IsBacked new call verdict
    backed_stays (Ok (Reads fid span)) b = between_stays fid false span.from span.to b
    backed_stays (Ok (Writes fid from to)) b = record {
      place = b.place;
      bytes = b.bytes;
      call_is = b.call_is;
      ends = b.ends;
      covered = between_stays fid true from to b.covered;
    }
    backed_stays (Ok (Uses fid kind)) b = record {
      label = b.label;
      kind_is = b.kind_is;
      taken = b.taken;
      unused = unused_stays (is_lock kind) b.label b.unused;
      covered = covers_stays fid kind b.covered;
    }
    backed_stays (Ok Frees) b = record {
      lock = b.lock;
      label = b.label;
      call_is = b.call_is;
      used = b.used;
      in_use = ap (λ (u : InUse). use_of u b.lock b.label) uses ∙ b.in_use;
    }
    backed_stays (Ok Gives) b = b
    backed_stays (Ok Does) b = b
    backed_stays (Ok (Lists fid)) b = b
    backed_stays (Ok (Tells fid)) b = b
    backed_stays (Ok (Shows fid which)) b = b
    backed_stays (Ok (Syncs fid)) b = b
    backed_stays (Ok (Asks question)) b = b
    backed_stays (Err refusal) b = b

-- the way and the needs that were marked are those of the call
pub marks_so : (m new : Tables) (call : Call) (root : Fid) (path way : List (List ℕ))
    (verdict : Result Verdict Refusal) (needs : List Need) →
    seen new.cache ≡ used_all (marks_of (content m.cache) m.user needs way root) (seen m.cache) →
    needs ≡ last_needs m verdict → way ≡ way_of m call root path → new ≡ record m { cache = new.cache } →
    MarksUsed m call root path verdict new
marks_so m new call root path way verdict needs shown needs_are way_is tables = record {
  shown = shown
      ∙ (λ i. used_all (marks_of (content m.cache) m.user (needs_are i) (way_is i) root) (seen m.cache));
  tables = tables;
}

pub marked_backed : (m new : Tables) (call : Call) (root : Fid) (path : List (List ℕ))
    (verdict : Result Verdict Refusal) → MarksUsed m call root path verdict new → IsBacked m call verdict →
    IsBacked new call verdict
marked_backed m new call root path verdict marks b =
    backed_stays m new
    (marks_of (content m.cache) m.user (last_needs m verdict) (way_of m call root path) root) marks.shown
    (ap (λ (x : Tables). x.uses) marks.tables) call verdict b
