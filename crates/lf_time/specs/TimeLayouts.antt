-- The layouts of moments.
use Rattle.std.specs.Prelude.{Bool, true, false}
use Rattle.lf_layout.specs.declared.layout.DateForm.TheVariants.{Iso, Named}
use Rattle.lf_layout.specs.declared.layout.Zone.TheVariants.{Absent, Zulu, Compact, Colon}
use Rattle.lf_layout.specs.declared.layout.Layout.{Layout}

-- `10/Oct/2000:13:55:36 -0700`, in brackets or not
abbrev pub clf_layout : Bool → Layout
clf_layout bracketed = record { bracketed = bracketed; date = Named; between = 58; millis = false; zone = Compact }

-- `2000-10-10T13:55:36-07:00`
abbrev pub iso_offset_layout : Layout
iso_offset_layout = record { bracketed = false; date = Iso; between = 84; millis = false; zone = Colon }

-- `2016-04-15T20:17:00.310Z`
abbrev pub iso_millis_layout : Layout
iso_millis_layout = record { bracketed = false; date = Iso; between = 84; millis = true; zone = Zulu }

-- `06/Feb/2009:12:14:14.655`
abbrev pub ha_layout : Layout
ha_layout = record { bracketed = false; date = Named; between = 58; millis = true; zone = Absent }

-- `2000-10-10T13:55:36.000-07:00`
abbrev pub json_layout : Layout
json_layout = record { bracketed = false; date = Iso; between = 84; millis = true; zone = Colon }
