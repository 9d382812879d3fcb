use Rattle.std.proofs.Common.{◌≡◌, ◌∙◌, ◌++◌, ℕ, List, ap, refl, subst, sym, take}
use Rattle.reencode_component.proofs.types_walked.StreamedScopes.{type_absent, type_streams, type_unbegun}
use Rattle.reencode_component.proofs.direct.ScopedTypeAppendRowWOfKindsComponentTypesErrorError.append.Goals as goal

pub returns-in-Err-clause-refused : goal.returns-in-Err-clause-refused
returns-in-Err-clause-refused g c = type_unbegun g.T.ReencodeIndices c.args.self.now.scope refl

pub returns-in-Ok-Some-clause-ok : goal.returns-in-Ok-Some-clause-ok
returns-in-Ok-Some-clause-ok g c =
    let grown = c.in-Ok.ensures.items ∙ ap (λ (z : List ℕ). c.args.out.now.items ++ z) c.front_of.ensures in
    let made = type_streams g.T.ReencodeIndices c.args.self.now.scope c.args.out.now.items grown _ (rw c.in-Ok-Some.field-0-is at c.in-Ok-Some.ensures) in
    (made.gives.0, made.gives.2, made.gives.1, λ keeps t left p k. made.gives.3.walks keeps t left p k)

pub returns-in-Ok-None-clause-err : goal.returns-in-Ok-None-clause-err
returns-in-Ok-None-clause-err g c =
    let grown = c.in-Ok.ensures.items ∙ ap (λ (z : List ℕ). c.args.out.now.items ++ z) c.front_of.ensures in
    let made = type_streams g.T.ReencodeIndices c.args.self.now.scope c.args.out.now.items grown _ (rw c.in-Ok-None.field-0-is at c.in-Ok-None.ensures) in
    let P : ℕ → Type 0 = λ n. take n c.stream_scope.new.out.items ≡ c.args.out.now.items in
    subst P (sym c.args.out.now.ok.0) made.gives.0

pub returns-in-Ok-None-clause-refused : goal.returns-in-Ok-None-clause-refused
returns-in-Ok-None-clause-refused g c =
    let grown = c.in-Ok.ensures.items ∙ ap (λ (z : List ℕ). c.args.out.now.items ++ z) c.front_of.ensures in
    let made = type_streams g.T.ReencodeIndices c.args.self.now.scope c.args.out.now.items grown _ (rw c.in-Ok-None.field-0-is at c.in-Ok-None.ensures) in
    type_absent g.T.ReencodeIndices c.args.self.now.scope _ made

pub returns-in-Err-stream_scope-clause-err : goal.returns-in-Err-stream_scope-clause-err
returns-in-Err-stream_scope-clause-err g c =
    let grown = c.in-Ok.ensures.items ∙ ap (λ (z : List ℕ). c.args.out.now.items ++ z) c.front_of.ensures in
    let made = type_streams g.T.ReencodeIndices c.args.self.now.scope c.args.out.now.items grown _ c.in-Err-stream_scope.ensures in
    let P : ℕ → Type 0 = λ n. take n c.stream_scope.new.out.items ≡ c.args.out.now.items in
    subst P (sym c.args.out.now.ok.0) made.gives.0

pub returns-in-Err-stream_scope-clause-refused : goal.returns-in-Err-stream_scope-clause-refused
returns-in-Err-stream_scope-clause-refused g c =
    let grown = c.in-Ok.ensures.items ∙ ap (λ (z : List ℕ). c.args.out.now.items ++ z) c.front_of.ensures in
    let made = type_streams g.T.ReencodeIndices c.args.self.now.scope c.args.out.now.items grown _ c.in-Err-stream_scope.ensures in
    made.gives.1
