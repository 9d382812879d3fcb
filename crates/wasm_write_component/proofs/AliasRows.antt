-- The spelling of aliases.
use Rattle.std.proofs.Common.{ℕ, ◌<◌, ◌^◌, List, refl, arith}
use Rattle.wasm_shapes.specs.Tree.{Tree, normal}
use Rattle.wasm_shapes.specs.Shape.{Shape}
use Rattle.wasm_shapes.specs.Spells.{Is, Spells}
use Rattle.wasm_shapes.specs.Fits.{InRange}
use Rattle.wasm_shapes.specs.Component.{alias}
use Rattle.wasm_shapes.specs.ComponentTypes.{instance_export_tree, core_instance_export_tree, core_export_alias}
use Rattle.wasm_shapes.proofs.Frameless.{frameless_spells}
use Rattle.wasm_write.specs.declared.types.ExportKind.{ExportKind}
use Rattle.wasm_write.specs.declared.types.ExportKind.TheVariants as export
use Rattle.wasm_types.specs.declared.components.ComponentExternalKind.{ComponentExternalKind}
use Rattle.wasm_types.specs.declared.components.ComponentExternalKind.TheVariants as component
use Rattle.wasm_types.specs.declared.components.ComponentOuterAliasKind.{ComponentOuterAliasKind}
use Rattle.wasm_types.specs.declared.components.ComponentOuterAliasKind.TheVariants as outer
use Rattle.wasm_types.specs.ComponentTrees.{export_alias, outer_alias}
use Rattle.wasm_write_component.specs.Aliases.{core_sort_byte}

abbrev SpelledAs : Shape → Tree → Type 0
SpelledAs s t = ∥ Spells s (normal t) t ∥₁

-- ---- an export of an instance

export_is : (kind : ComponentExternalKind) (i : ℕ) (name : List ℕ) → Is alias (export_alias kind (instance_export_tree i name))
export_is component.Module i name = Is.ref (Is.first (Is.seq Is.fixed (Is.later {k = 1} (Is.later {k = 0} (Is.first (Is.seq Is.fixed (Is.first (Is.seq Is.fixed (Is.seq Is.ix Is.name)))))))))
export_is component.Func i name = Is.ref (Is.later {k = 0} (Is.first (Is.seq Is.fixed (Is.seq Is.fixed (Is.seq Is.ix Is.name)))))
export_is component.Value i name = Is.ref (Is.later {k = 1} (Is.later {k = 0} (Is.first (Is.seq Is.fixed (Is.seq Is.fixed (Is.seq Is.ix Is.name))))))
export_is component.Type_ i name = Is.ref (Is.later {k = 2} (Is.later {k = 1} (Is.later {k = 0} (Is.first (Is.seq Is.fixed (Is.first (Is.seq Is.fixed (Is.seq Is.ix Is.name))))))))
export_is component.Component i name =
    Is.ref (Is.later {k = 3} (Is.later {k = 2} (Is.later {k = 1} (Is.later {k = 0} (Is.first (Is.seq Is.fixed (Is.first (Is.seq Is.fixed (Is.seq Is.ix Is.name)))))))))
export_is component.Instance i name =
    Is.ref (Is.later {k = 4} (Is.later {k = 3} (Is.later {k = 2} (Is.later {k = 1} (Is.later {k = 0} (Is.first (Is.seq Is.fixed (Is.seq Is.fixed (Is.seq Is.ix Is.name)))))))))

export_in_range : (kind : ComponentExternalKind) (i : ℕ) (name : List ℕ) → i < 2 ^ 32 → InRange (Tree.name name) → InRange (export_alias kind (instance_export_tree i name))
export_in_range component.Module i name h r = (tt, (tt, (tt, (h, r))))
export_in_range component.Func i name h r = (tt, (tt, (h, r)))
export_in_range _ i name h r = (tt, (tt, (h, r)))

pub export_spelled : (kind : ComponentExternalKind) (i : ℕ) (name : List ℕ) → i < 2 ^ 32 → InRange (Tree.name name) →
    SpelledAs alias (export_alias kind (instance_export_tree i name))
export_spelled kind i name h r = ∣ frameless_spells alias refl (export_is kind i name) (export_in_range kind i name h r) ∣₁

-- ---- an export of a core instance

core_small : (kind : ExportKind) → core_sort_byte kind < 5
core_small export.Func = omega arith
core_small _ = omega arith

core_export_is : (kind : ExportKind) (i : ℕ) (name : List ℕ) → Is alias (core_export_alias (core_sort_byte kind) (core_instance_export_tree i name))
core_export_is kind i name =
    let small = core_small kind in
    Is.ref (Is.first (Is.seq Is.fixed (Is.first (Is.seq (Is.within (omega arith) (omega (arith, small))) (Is.seq Is.fixed (Is.seq Is.ix Is.name))))))

pub core_export_spelled : (kind : ExportKind) (i : ℕ) (name : List ℕ) → i < 2 ^ 32 → InRange (Tree.name name) →
    SpelledAs alias (core_export_alias (core_sort_byte kind) (core_instance_export_tree i name))
core_export_spelled kind i name h r =
    let small = core_small kind in
    ∣ frameless_spells alias refl (core_export_is kind i name) (tt, (omega (arith, small), (tt, (h, r)))) ∣₁

-- ---- what stands further out

outer_is : (kind : ComponentOuterAliasKind) (c i : ℕ) → Is alias (outer_alias kind c i)
outer_is outer.CoreModule c i = Is.ref (Is.first (Is.seq Is.fixed (Is.later {k = 1} (Is.later {k = 0} (Is.first (Is.seq Is.fixed (Is.later {k = 0} (Is.first (Is.seq Is.fixed Is.outer)))))))))
outer_is outer.CoreType c i = Is.ref (Is.first (Is.seq Is.fixed (Is.later {k = 0} (Is.first (Is.seq Is.fixed (Is.seq Is.fixed Is.outer))))))
outer_is outer.Type_ c i = Is.ref (Is.later {k = 2} (Is.later {k = 1} (Is.later {k = 0} (Is.first (Is.seq Is.fixed (Is.later {k = 0} (Is.first (Is.seq Is.fixed Is.outer))))))))
outer_is outer.Component c i =
    Is.ref (Is.later {k = 3} (Is.later {k = 2} (Is.later {k = 1} (Is.later {k = 0} (Is.first (Is.seq Is.fixed (Is.later {k = 0} (Is.first (Is.seq Is.fixed Is.outer)))))))))

outer_in_range : (kind : ComponentOuterAliasKind) (c i : ℕ) → c < 2 ^ 32 → i < 2 ^ 32 → InRange (outer_alias kind c i)
outer_in_range outer.CoreModule c i h k = (tt, (tt, (tt, (h, k))))
outer_in_range outer.CoreType c i h k = (tt, (tt, (tt, (h, k))))
outer_in_range _ c i h k = (tt, (tt, (h, k)))

pub outer_spelled : (kind : ComponentOuterAliasKind) (c i : ℕ) → c < 2 ^ 32 → i < 2 ^ 32 → SpelledAs alias (outer_alias kind c i)
outer_spelled kind c i h k = ∣ frameless_spells alias refl (outer_is kind c i) (outer_in_range kind c i h k) ∣₁
