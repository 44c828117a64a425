-- The domains of moments that steps stand for.
use Rattle.lf_format.specs.declared.kind.Kind.{Kind}
use Rattle.lf_format.specs.declared.kind.Kind.TheVariants as kind
use Rattle.lf_layout.specs.declared.layout.Layout.{Layout}
use Rattle.lf_time.specs.TimeLayouts.{clf_layout, iso_offset_layout, iso_millis_layout, ha_layout}
use Rattle.lf_scan.specs.declared.time_step.MomentStep.{MomentStep}
use Rattle.lf_scan.specs.declared.time_step.MomentStep.TheVariants.{Clf, Iso, IsoMillis, Ha}

-- the domain of the moments
abbrev pub moment_kind : MomentStep → Kind
moment_kind (Clf d) = kind.Clf d
moment_kind (Iso d) = kind.Iso d
moment_kind (IsoMillis d) = kind.IsoMillis d
moment_kind (Ha d) = kind.Ha d

-- the layout of the moments
abbrev pub layout_of : MomentStep → Layout
layout_of (Clf d) = clf_layout d.bracketed
layout_of (Iso d) = iso_offset_layout
layout_of (IsoMillis d) = iso_millis_layout
layout_of (Ha d) = ha_layout
