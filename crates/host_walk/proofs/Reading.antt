-- What becomes of a Read, once the file is found.
use Rattle.std.proofs.Common.{false, ◌⊎◌}
use Rattle.std.proofs.Common.{◌≡◌, ◌≤◌, ◌<◌, ◌+◌, ◌-◌, ℕ, min, List, Option, Result, Ok, Err, refl, sym, ap, subst}
use Rattle.std.proofs.Common.{◌∙◌, inl, inr, arith}
use Rattle.base_types.specs.declared.ids.Fid.{Fid}
use Rattle.base_types.specs.declared.span.Span.{Span}
use Rattle.base_types.specs.declared.user.User.{User}
use Rattle.token_types.specs.Covers.{Covers, CoversBetween}
use Rattle.token_types.specs.declared.token.Token.{Token}
use Rattle.tree_calls.specs.declared.reply.Refusal.{Refusal}
use Rattle.tree_filesets.specs.Rights.{read_right}
use Rattle.tree_laws.specs.Parts.{Nature}
use Rattle.tree_laws.specs.Parts.Part.{Size}
use Rattle.tree_objects.specs.Spans.{span_between}
use Rattle.need_host.specs.Calls.{bytes_look, read_from}
use Rattle.need_host.specs.Looks.{IsFirstLack, Look, View, checked, look_on, needs_of}
use Rattle.need_host.specs.Looks.Look.{Ends}
use Rattle.need_host.specs.Walks.{permitted_look}
use Rattle.host_walk.specs.Bytes.{CoverBlocks, LacksBlock, byte_need, bytes_read, bytes_seen, read_count}
use Rattle.host_walk.specs.declared.sight.Stop.{Stop}
use Rattle.host_walk.specs.declared.sight.Stop.TheVariants.{Lacks}
use Rattle.host_walk.specs.Trying.{Finds, IsStopped, status_need}
use Rattle.host_walk.proofs.Blocks.{block_beyond, byte_of_block, bytes_found_all, bytes_found_lack}
use Rattle.host_walk.proofs.Trying.{GoesOn, checked_on, goes_by, looks_on, stops_on}

-- the positions of a read lie in the span, but for those behind the last that a file can have
module _ (held : List Token) (fid : Fid) (from n : ℕ) (span : Span) (is : span ≡ span_between from (from + n)) where
  from_is : span.from ≡ min from (min (from + n) 65536)
  from_is = ap (λ (s : Span). s.from) is

  to_is : span.to ≡ min (from + n) 65536
  to_is = ap (λ (s : Span). s.to) is

  pub blocks_from_span : CoverBlocks held fid span.from span.to → CoverBlocks held fid from (from + n)
  blocks_from_span all at low high = by_cases (split at span.to)
    where
      split : (a b : ℕ) → (a < b) ⊎ (b ≤ a)
      split a b = grind arith

      by_cases : (at < span.to) ⊎ (span.to ≤ at) → Covers held (byte_need fid at)
      by_cases (inl h) = all at (omega (arith, from_is, low)) h
      by_cases (inr h) = block_beyond held fid at (omega (arith, to_is, h, high))

  pub blocks_of_none : span.from ≡ span.to → CoverBlocks held fid from (from + n)
  blocks_of_none e at low high = block_beyond held fid at (omega (arith, from_is, to_is, e, low, high))

  pub lack_in_span : (at : ℕ) → LacksBlock held fid span.from span.to at → LacksBlock held fid from (from + n) at
  lack_in_span at h =
      let same : span.from ≡ from = omega (arith, from_is, to_is, h.above, h.below) in
      record {
        above = omega (arith, same, h.above);
        below = omega (arith, to_is, h.below);
        before = subst (λ k. CoverBlocks held fid k at) same h.before;
        lacks = h.lacks;
      }

  pub span_covered : CoverBlocks held fid span.from span.to → CoversBetween held fid false span.from span.to
  span_covered all = byte_of_block held fid span.from span.to (omega (arith, to_is)) all

  pub none_covered : span.from ≡ span.to → CoversBetween held fid false span.from span.to
  none_covered e at low high = absurd (omega (arith, e, low, high))

module _ (held : List Token) (view : View) (user : User) (root : Fid) (path : List (List ℕ)) (from len : ℕ) where
  pub read_unfound : (stop : Stop) → IsStopped held view (permitted_look user root path read_right) stop →
      IsStopped held view (checked (permitted_look user root path read_right) (read_from from len)) stop
  read_unfound stop h = stops_on held view (read_from from len) (permitted_look user root path read_right) stop h

  module _ (fid : Fid) (nature : Nature)
      (found : Finds held view (permitted_look user root path read_right) (fid, nature))
      (covered : Covers held (status_need fid)) where
    abbrev reading : ℕ → Look (Result (List ℕ) Refusal)
    reading size = look_on (bytes_look fid from (read_count from len size)) (λ bytes. Ends (Ok bytes))

    read_on : GoesOn held view (reading (view fid Size))
        (checked (permitted_look user root path read_right) (read_from from len))
    read_on =
        goes_by held view (reading (view fid Size)) (read_from from len (fid, nature))
        (checked (permitted_look user root path read_right) (read_from from len))
        (looks_on held view fid Size reading covered)
        (checked_on held view (read_from from len) (permitted_look user root path read_right) (fid, nature) found)

    pub read_lacks : (at : ℕ) → LacksBlock held fid from (from + read_count from len (view fid Size)) at →
        (stop : Stop) → stop ≡ Lacks (byte_need fid at) →
        IsStopped held view (checked (permitted_look user root path read_right) (read_from from len)) stop
    read_lacks at lack stop e =
        subst (IsStopped held view (checked (permitted_look user root path read_right) (read_from from len))) (sym e)
        (read_on.stops (Lacks (byte_need fid at))
        (bytes_found_lack held view fid from (read_count from len (view fid Size)) at lack))

    pub read_found : CoverBlocks held fid from (from + read_count from len (view fid Size)) →
        Finds held view (checked (permitted_look user root path read_right) (read_from from len))
        (bytes_read view from len fid)
    read_found all =
        read_on.finds (bytes_read view from len fid)
        (bytes_found_all held view fid from (read_count from len (view fid Size)) all)
