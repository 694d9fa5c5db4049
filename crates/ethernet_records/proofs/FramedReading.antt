-- A read answers with the record r, and the view of the frame with the bytes b, exactly where r with b stands in the
-- log as a valid item. Assumes nothing.
use mathlib.Core.Path.{◌≡◌, sym, ap, ◌∙◌}
use mathlib.Core.Logic.{◌↔◌}
use mathlib.Core.List.{List}
use Prim.Native.Nat.{ℕ}
use Rattle.fields.specs.Numbers.{Bytes}
use Rattle.headers.specs.Format.{body_of}
use Rattle.headers.proofs.Objects.{body_object}
use Rattle.ethernet.specs.declared.frame.Frame.{Frame}
use Rattle.ethernet.specs.declared.frame_error.FrameError.{FrameError}
use Rattle.ethernet.specs.Fields.{Framed}
use Rattle.headers.specs.Types.{Kind, frame, forwarded_frame, ethernet_error, forwarded_error, number_of}
use Rattle.objects.specs.Kinds.{Record, layout_of}
use Rattle.objects.specs.Items.{known, bytes_of, Stands}
use Rattle.objects.specs.Views.{frame_at}
use Rattle.objects.proofs.KindLaws.{viewed}
use Rattle.objects.proofs.Standing.{item_object}
use Rattle.objects.proofs.ViewLaws.{object_here}
use Rattle.outcomes.specs.Answers as told
use Rattle.outcomes.specs.Reads.{look_at, record_at}
use Rattle.outcomes.proofs.Reading.{read_stands, read_exact}
use Rattle.ethernet_records.specs.Framed.{framed, frame_bytes, Gives}

module _ (k : Kind) (s : List ℕ) (at : ℕ) where
  body_here : (r : Record k) → body_of (bytes_of (known k r)) ≡ (layout_of k).body r
  unfolding bytes_of
  body_here r = body_object (number_of k) ((layout_of k).header r) ((layout_of k).body r)

  -- the view of a record that stands there is its frame
  pub view_here : (r : Record k) → Stands s at (known k r) → frame_at s at ≡ frame_bytes k r
  unfolding frame_at
  view_here r w =
      let i = item_object (known k r) w.valid in
      rw (object_here s at _ i.0 _ w.here, i.1, body_here r) (viewed k r)

  -- where the read gives a record, the view is that record's frame
  view_read : Bytes s → (look_at s at (number_of k)).told ≡ told.Record → frame_at s at ≡ frame_bytes k (record_at k s at)
  view_read bs q = view_here (record_at k s at) (read_stands k s at bs q)

-- a record with its frame, told by its two parts
by_parts : {A T S : Type 0} (x : Framed A) {v : List ℕ} (a : A) (b : List ℕ) → (T → v ≡ x.bytes) → (T × (x ≡ framed a b)) ↔ S → (T × (x.value ≡ a) × (v ≡ b)) ↔ S
by_parts x a b same e = (
  λ p. e.0 (p.0, λ i. record { value = p.1 i; bytes = (sym (same p.0) ∙ p.2) i }),
  λ y. let q = e.1 y in
      (q.0, ap (λ f. f.value) q.1, same q.0 ∙ ap (λ f. f.bytes) q.1),
)

module _ (s : List ℕ) (at : ℕ) (bs : Bytes s) where
  pub frame_exact : (r : Frame) (b : List ℕ) → Gives s at frame (λ f. f.value) r b ↔ Stands s at (known frame (framed r b))
  frame_exact r b = by_parts (record_at frame s at) r b (view_read frame s at bs) (read_exact frame s at bs (framed r b))

  pub forwarded_frame_exact : (r : Frame) (b : List ℕ) → Gives s at forwarded_frame (λ f. f.value) r b ↔ Stands s at (known forwarded_frame (framed r b))
  forwarded_frame_exact r b =
      by_parts (record_at forwarded_frame s at) r b (view_read forwarded_frame s at bs) (read_exact forwarded_frame s at bs (framed r b))

  pub error_exact : (e : FrameError) (b : List ℕ) → Gives s at ethernet_error (λ f. f.value) e b ↔ Stands s at (known ethernet_error (framed e b))
  error_exact e b = by_parts (record_at ethernet_error s at) e b (view_read ethernet_error s at bs) (read_exact ethernet_error s at bs (framed e b))

  pub forwarded_error_exact : (e : FrameError) (b : List ℕ) → Gives s at forwarded_error (λ f. f.value) e b ↔ Stands s at (known forwarded_error (framed e b))
  forwarded_error_exact e b =
      by_parts (record_at forwarded_error s at) e b (view_read forwarded_error s at bs) (read_exact forwarded_error s at bs (framed e b))
